use Rattle.show.proofs.+put_number.Given as goal

-- the number itself falls
abbrev pub decreases-put_number : goal.decreases-put_number
decreases-put_number l = l.n
