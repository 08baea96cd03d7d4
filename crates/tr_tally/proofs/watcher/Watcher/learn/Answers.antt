use Rattle.std.proofs.Common.{◌≡◌, ℕ, set, ap, ◌∙◌}
use Rattle.std.proofs.lemmas.List.{set-set}
use Rattle.tr_tally.specs.Tallies.{NoteState, WatcherState, watcher_state}
use Rattle.tr_tally.proofs.watcher.Watcher.learn.Goals as goal

-- what is read replaces what the note told
replaced : (was between after : WatcherState) (stream same noted found : ℕ) → same ≡ stream
    → between ≡ watcher_state was.table (set was.answers stream noted)
    → after ≡ watcher_state between.table (set between.answers same found)
    → after ≡ watcher_state was.table (set was.answers stream found)
replaced was between after stream same noted found is joined read =
    read ∙ (λ q. watcher_state (joined q).table (set (joined q).answers (is q) found))
    ∙ ap (λ l. watcher_state was.table l) (set-set was.answers stream noted found)

pub returns-clause-kept : goal.returns-clause-kept
returns-clause-kept g c =
    let stream = ap (λ (n : NoteState). n.stream) c.note.view_is in
    replaced _ _ _ _ _ _ _ stream c.join.ensures.joined c.read.ensures.kept
