use Rattle.std.proofs.Common.{◌≡◌, rules, sym, arith}
use Rattle.std.proofs.lemmas.Grind.{common_steps}
use Rattle.std.specs.Prelude.{length}
use Rattle.tr_session.proofs.RotationLemmas.{is-whole, not-refused, rotation-is}
use Rattle.tr_session.proofs.session.Session.rotate.Goals as goal
use Rattle.tr_session.specs.Session.{SessionOf}
use Rattle.tr_session.specs.Steps.{cut_first, with_rotation}
use Rattle.tr_session_book.specs.BookSteps.{archive_ended, book_rotate_begin_answer}
use Rattle.tr_stream.specs.Rules.{by_state}
use Rattle.tr_stream.specs.State.{StreamState}

pub returns-clause-refused : goal.returns-clause-refused
returns-clause-refused g c =
    let begin : SessionOf StreamState = c.rotate_begin.new.self in
    let did = c.in_default.ensures.value (λ memory. absurd cc) in
    let cut : c.cut_all.new.self ≡ cut_first by_state (length begin.streams) begin = search rules in
    not-refused c.rotate_finish.result (archive_ended c.args.moment c.args.self.now.book) (book_rotate_begin_answer c.args.self.now.book)
    (rotation-is c.args.moment c.in_default.field-0 c.args.self.now begin c.cut_all.new.self c.rotate_finish.new.self
    c.rotate_finish.result (sym did.0) did.1 c.cut_all.ensures.as_many cut c.rotate_finish.ensures.answer
    c.rotate_finish.ensures.after).0

pub returns-clause-whole : goal.returns-clause-whole
returns-clause-whole g c =
    let begin : SessionOf StreamState = c.rotate_begin.new.self in
    let did = c.in_default.ensures.value (λ memory. absurd cc) in
    let cut : c.cut_all.new.self ≡ cut_first by_state (length begin.streams) begin = search rules in
    let is = rotation-is c.args.moment c.in_default.field-0 c.args.self.now begin c.cut_all.new.self
    c.rotate_finish.new.self c.rotate_finish.result (sym did.0) did.1 c.cut_all.ensures.as_many cut
    c.rotate_finish.ensures.answer c.rotate_finish.ensures.after in
    is-whole c.rotate_finish.result (archive_ended c.args.moment c.args.self.now.book) c.rotate_finish.new.self
    (with_rotation by_state c.args.moment c.args.self.now) is.0 is.1

pub returns-in-Err-clause-value : goal.returns-in-Err-clause-value
returns-in-Err-clause-value g c = grind (arith, common_steps)
