use Rattle.pqscan.proofs.main.Given as goal

abbrev pub ghosts-scan : goal.ghosts-scan
ghosts-scan a = record { name = a.blank.name; parts = a.blank.parts }
