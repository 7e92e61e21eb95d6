use Rattle.decimalwrite.proofs.write.+natural_length.Given as goal

abbrev pub decreases-natural_length : goal.decreases-natural_length
decreases-natural_length l = l.number
