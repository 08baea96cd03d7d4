use Rattle.tr_tally.proofs.watcher.Watcher.audit.Given as goal

-- the stream that is given
abbrev pub ghosts-answer_known : goal.ghosts-answer_known
ghosts-answer_known g a = record { count = a._stream }
