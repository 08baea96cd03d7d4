use Rattle.tr_replies.proofs.status.session_head.Goals as goal

pub returns : goal.returns
returns g c = rw (c.mode_word-mode.ensures, c.mode.ensures, c.state_word-state.ensures, c.state.ensures) at c.in_ok-text.ensures.ok
