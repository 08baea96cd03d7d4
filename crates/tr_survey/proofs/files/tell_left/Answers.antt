use Rattle.std.proofs.Common.{◌≡◌, ◌≤◌, ℕ, List, [], ◌∷◌, length, refl, arith}
use Rattle.std.proofs.lemmas.Result.{on_err_weaker, on_ok_weaker}
use Rattle.tr_chunk.specs.declared.audit_fault.AuditCause.TheVariants.{Packet}
use Rattle.tr_packet.specs.declared.faults.PacketFault.TheVariants.{Short}
use Rattle.tr_survey.specs.Streams.{Place, fault_told, left_told}
use Rattle.tr_survey.specs.Told.{Told}
use Rattle.tr_survey.specs.declared.tally.Tally.{Tally}
use Rattle.tr_survey.specs.Listing.{key_of}
use Rattle.tr_survey.specs.Streams.{place_of}
use Rattle.tr_survey.specs.Prefix.{IsPrefixOut, IsTold}
use Rattle.std.proofs.Common.{subst}
use Rattle.tr_survey.proofs.files.tell_left.Goals as goal

some_left : (at : Place) (s : Tally) (offset : ℕ) (held : List ℕ) → 1 ≤ length held → fault_told at s offset (Packet Short) ≡ left_told at s offset held
some_left at s offset [] some = absurd (omega arith)
some_left at s offset (b ∷ held) some = refl

pub returns-in-len1-up-clause-ok : goal.returns-in-len1-up-clause-ok
returns-in-len1-up-clause-ok g c =
    on_ok_weaker c.tell_cause.result
    (λ told from. subst (λ (t : Told Tally). IsTold t (g.K.ByteSink.taken c.args.sink.now) (g.K.ByteSink.taken c.tell_cause.new.sink) c.tell_cause.new.tally) (some_left (place_of from c.args.stream (key_of c.args.archive.now)) c.args.tally.now c.args.offset c.args.held.now (let l = c.in-len1-up.len_at_least in omega (arith, l))) (told from))
    c.tell_cause.ensures.ok

pub returns-in-len1-up-clause-err : goal.returns-in-len1-up-clause-err
returns-in-len1-up-clause-err g c =
    on_err_weaker c.tell_cause.result
    (λ told from. subst (λ (t : Told Tally). IsPrefixOut t.text (g.K.ByteSink.taken c.args.sink.now) (g.K.ByteSink.taken c.tell_cause.new.sink)) (some_left (place_of from c.args.stream (key_of c.args.archive.now)) c.args.tally.now c.args.offset c.args.held.now (let l = c.in-len1-up.len_at_least in omega (arith, l))) (told from))
    c.tell_cause.ensures.err
