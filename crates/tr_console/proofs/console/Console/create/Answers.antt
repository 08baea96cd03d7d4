use Rattle.std.proofs.Common.{rules, ◌≡◌, ◌∙◌, ◌∷◌, ◌++◌, [], None, Some, true, false, true≢false, is_some, length, ap, ap₂, arith, refl, subst, sym, w32}
use Rattle.std.proofs.lemmas.Bool.Decides.{nat_tests}
use Rattle.std.proofs.lemmas.Int.{to_z-of_z}
use Rattle.std.specs.Prelude.{nat_le}
use Rattle.tr_console.proofs.CallLemmas.{refuses}
use Rattle.tr_console.proofs.CreateLemmas.{create-bad_uuid, create-new, none_copied, none_from}
use Rattle.tr_console.proofs.console.Console.create.Goals as goal
use Rattle.tr_replies.specs.Text.{Text}
use Rattle.tr_console.specs.World.{session_named}
use Rattle.tr_console.specs.commands.Create.{create_step, with_new}
use Rattle.tr_replies.specs.declared.line_fault.LineFault.TheVariants.{BadUuid}
use Rattle.tr_session.specs.Session.{declaring, new_session}
use Rattle.tr_session.proofs.RunLemmas.{declared-new}
use Rattle.tr_terms.specs.Names.{is_name}
use Rattle.tr_terms.specs.declared.limits.TheConstants.{MOST_SESSIONS}
use Rattle.uuid.specs.Text.{parsed}

pub returns-in_default-parse_str-clause-done : goal.returns-in_default-parse_str-clause-done
returns-in_default-parse_str-clause-done g c =
    let w = c.args.self.now in
    let name = c.args.session.now in
    let uuid = c.args.uuid.now in
    let said = c.refusal-in_default-parse_str.ensures in
    let named : is_name name ≡ true = search rules in
    let none : parsed uuid ≡ None = none_from (parsed uuid) (λ some. true≢false (sym (c.in_default-parse_str.ensures.ok.1 some))) in
    refuses c.refusal-in_default-parse_str.result w w BadUuid (create_step w name uuid c.args.offset c.args.mode)
    (λ _. create-bad_uuid w name uuid c.args.offset c.args.mode named none) refl said.text said.refused said.memory

pub add-requires : goal.add-requires
add-requires g c =
    let w = c.args.self.now in
    subst (λ (n : Text). session_named n w ≡ None) (sym c.in-Some-new.ensures.value)
    (none_copied c.find.result (session_named c.args.session.now w) c.find.ensures (sym c.if-is_some.ensures))

pub returns-clause-done : goal.returns-clause-done
returns-clause-done g c =
    let w = c.args.self.now in
    let name = c.args.session.now in
    let uuid = c.args.uuid.now in
    let named : is_name name ≡ true = c.in-Some-new.ensures.succeeds.0 refl in
    let good : parsed uuid ≡ Some c.in-Ok.uuid = sym c.in-Ok.ensures.bytes in
    let free : is_some (session_named name w) ≡ false =
    ap is_some (none_copied c.find.result (session_named name w) c.find.ensures (sym c.if-is_some.ensures)) in
    let few : nat_le MOST_SESSIONS (length w.sessions) ≡ false =
    grind (arith, nat_tests, c.sessions.ensures, c.if-sessions-ge-MOST_SESSIONS.false) in
    let step = create-new w name uuid c.args.offset c.args.mode c.in-Ok.uuid named good free few in
    let offset : c.in-Some.offset ≡ c.args.offset = c.in-Some.ensures.value ∙ to_z-of_z w32 c.args.offset c.ranges.offset in
    let made : c.declare.new.self ≡ declaring c.events.result.now (new_session c.in-Ok.uuid c.in-Some.offset c.args.mode) =
    declared-new c.in-Ok.uuid c.in-Some.offset c.args.mode c.events.result.now c.new-made.result c.declare.new.self c.new-made.ensures
    c.in_default-declare.ensures.ok in
    rw step (
      c.done.ensures.text ∙ c.in_ok-text.ensures.ok,
      c.done.ensures.done,
      c.in_ok-add.ensures.ok ∙ (λ j. with_new (c.in-Some-new.ensures.value j)
          ((made ∙ (λ k. declaring (c.events.ensures k) (new_session c.in-Ok.uuid (offset k) c.args.mode))) j) w),
    )
