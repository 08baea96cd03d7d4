use Rattle.std.proofs.Common.{Some, Ok}
use Rattle.tr_describe.specs.Answers.{described_of, said_by_text, texts_of}
use Rattle.tr_describe.proofs.TellingLemmas.{all_put, front_said, told_err}
use Rattle.tr_describe.proofs.telling.tell_described.Goals as goal

pub returns-in_err-tell_said-clause-tells : goal.returns-in_err-tell_said-clause-tells
returns-in_err-tell_said-clause-tells g c t known =
    told_err t c.args.dir.now (Some (Ok c.args.events.now)) c.from_residual-in_err-tell_said.result _ _ _ _
    c.from_residual-in_err-tell_said.ensures.0
    (all_put (texts_of t c.args.dir.now c.args.events.now) _ _ (c.in_ok-said.ensures.put t known))
    (front_said (said_by_text c.in_ok-said.said) (described_of t c.args.dir.now c.args.events.now) _ _ (c.in_ok-said.ensures.said t known)
    c.in_err-tell_said.ensures.err)
