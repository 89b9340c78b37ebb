-- What is proved of the plane, and where:
--   turns: turn_cycle, turn_swap, four (Turns); the fourth turn by the other three: fourth_is (MeetingParts)
--   the tests decide document 01's words: contains_decides (Containing), meets_decides (Meeting), inside_decides (Lines)
--   the kind of contact: kind_decides, one_kind, kind_rev, kind_swap; they meet where it is not none: meets_is (Contacts)
--   so do the public answers: containment_decides, contact_decides, meeting_decides; what is refused: proper_decides, contact_refuses (Answering)
--   from a common place to the signs of the turns and back: mixed, meets_not_above, meets_not_below, meets_by_signs (Places)
--   a common end of segments that are not on one line is their only common place: common_end (Meeting)
--   uncrossing: uncross (Places), laid_apart (Crossing)
--   lines: collinear_trans (Places), three (Points); the order along a line: inside_decides (Lines), height_up, height_down (Height)
--   the order of the two segments and of their ends does not matter: meets_swap, meets_rev (Symmetry)
--   the square of a distance: distance_back, distance_small, distance_some (Distances)
--   document 01's boards, folds, crosses and equal segments: boards, kinds (Boards)
pub mod Turns
pub mod Points
pub mod Places
pub mod Lines
pub mod Symmetry
pub mod Crossing
pub mod Containing
pub mod Meeting
pub mod Contacts
pub mod Height
pub mod Derived
pub mod Reading
pub mod Distances
pub mod Ordering
pub mod Choosing
pub mod MeetingParts
pub mod Answering
pub mod Boards
