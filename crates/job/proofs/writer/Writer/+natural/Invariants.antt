-- The number itself falls: its tenth part is smaller, since it is not 0.
use Rattle.job.proofs.writer.Writer.+natural.Given as goal

abbrev pub decreases-natural : goal.decreases-natural
decreases-natural l = l.v
