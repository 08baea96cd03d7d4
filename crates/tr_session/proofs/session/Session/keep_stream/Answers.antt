use Rattle.std.proofs.Common.{◌≡◌, ◌∙◌, ◌++◌, ◌∷◌, [], List, ap, length, rules, sym, arith}
use Rattle.std.proofs.lemmas.Grind.{common_steps}
use Rattle.tr_session.proofs.CallLemmas.{one-more, same-session}
use Rattle.tr_session.proofs.SessionLemmas.{thread-made, thread-wants}
use Rattle.tr_session.proofs.session.Session.keep_stream.Goals as goal
use Rattle.tr_session.specs.Session.{SessionOf}
use Rattle.tr_session.specs.Steps.{session_add_thread}
use Rattle.tr_session_book.specs.Book.{SessionBookState}
use Rattle.tr_session_book.specs.BookSteps.{channel_named, book_add_thread}
use Rattle.tr_stream.specs.Rules.{by_state}
use Rattle.tr_stream.specs.State.{StreamState}
use Rattle.tr_stream.specs.StateSteps.{new_state}
use Rattle.tr_stream.specs.declared.config.StreamConfig.{StreamConfig}

pub invariant_of-self-in-Ok : goal.invariant_of-self-in-Ok
invariant_of-self-in-Ok g c =
    let book : SessionBookState = c.self.inside.book in
    let old = c.self.view_is in
    let named = ap (λ (u : SessionOf StreamState). channel_named c.args.name.now u.book) old ∙ c.requires.named in
    one-more book c.add_thread.new.self c.self.inside.streams.items c.push_reserved.new.self.items c.args.name.now
    c.args.channel c.in_ok-stream.stream c.self.invariant
    (ap (λ (u : SessionOf StreamState). u.book.pending) old ∙ c.requires.bare.0)
    (ap (λ (u : SessionOf StreamState). u.book.archives) old ∙ c.requires.bare.1)
    named c.in-Ok.ensures.ok (c.in_ok-stream.ensures.value ∙ ap new_state made)
    (c.push_reserved.ensures.items ∙ ap (λ (ts : List StreamState). ts ++ c.in_ok-stream.stream ∷ []) c.reserve.ensures.items)
  where
    made : (let k : StreamConfig =
        record {
          uuid = c.uuid.result;
          number = c.len.result;
          geometry = c.args.channel.geometry;
          mode = c.args.channel.mode;
          session = c.mode.result;
        } in k)
        ≡ record {
          uuid = c.self.inside.book.uuid;
          number = length c.self.inside.streams.items;
          geometry = c.args.channel.geometry;
          mode = c.args.channel.mode;
          session = c.self.inside.book.mode;
        }
    made = let uuid = c.uuid.ensures in let mode = c.mode.ensures in let len : c.len.result ≡ length c.self.inside.streams.items = search rules in cc

pub invariant_of-self-in-Err-add_thread : goal.invariant_of-self-in-Err-add_thread
invariant_of-self-in-Err-add_thread g c =
    same-session c.self.inside.book c.add_thread.new.self c.self.inside.streams.items _ c.in-Err-add_thread.ensures.unchanged
    c.reserve.ensures.items c.self.invariant

pub returns-in-Ok-clause-number : goal.returns-in-Ok-clause-number
returns-in-Ok-clause-number g c =
    let s : SessionOf StreamState = record { book = c.self.inside.book; streams = c.self.inside.streams.items } in
    c.in-Ok.ensures.number ∙ sym c.self.invariant.as_many ∙ ap (λ (t : SessionOf StreamState). length t.streams) c.self.view_is

pub returns-in-Ok-clause-ok : goal.returns-in-Ok-clause-ok
returns-in-Ok-clause-ok g c =
    let s : SessionOf StreamState = record { book = c.self.inside.book; streams = c.self.inside.streams.items } in
    let t : SessionOf StreamState = record { book = c.add_thread.new.self; streams = c.push_reserved.new.self.items } in
    let named = ap (λ (u : SessionOf StreamState). channel_named c.args.name.now u.book) c.self.view_is ∙ c.requires.named in
    let pushed = c.push_reserved.ensures.items ∙ ap (λ (ts : List StreamState). ts ++ c.in_ok-stream.stream ∷ []) c.reserve.ensures.items in
    ap (λ (u : SessionOf StreamState). session_add_thread by_state c.args.name.now u) (sym c.self.view_is)
    ∙ thread-made s t c.args.name.now c.uuid.result c.len.result c.args.channel c.mode.result c.in_ok-stream.stream
    c.self.invariant named c.uuid.ensures (search rules) c.mode.ensures c.in_ok-stream.ensures.value pushed
    c.in-Ok.ensures.ok

pub returns-in-Err-add_thread-clause-reason : goal.returns-in-Err-add_thread-clause-reason
returns-in-Err-add_thread-clause-reason g c =
    thread-wants c.args.self.now.book c.args.name.now c.in-Err-add_thread.fault c.requires.placed
    (λ other. ap (λ (s : SessionOf StreamState). book_add_thread c.args.name.now s.book) (sym c.self.view_is) ∙ c.in-Err-add_thread.ensures.refused other)

pub returns-in_err-stream-clause-ok : goal.returns-in_err-stream-clause-ok
returns-in_err-stream-clause-ok g c = grind (arith, common_steps)

pub returns-in_err-stream-clause-unchanged : goal.returns-in_err-stream-clause-unchanged
returns-in_err-stream-clause-unchanged g c = grind (arith, common_steps)

pub returns-in-Err-clause-unchanged : goal.returns-in-Err-clause-unchanged
returns-in-Err-clause-unchanged g c = grind (arith, common_steps)

pub returns-in-Err-clause-ok : goal.returns-in-Err-clause-ok
returns-in-Err-clause-ok g c = grind (arith, common_steps)

pub invariant_of-self : goal.invariant_of-self
invariant_of-self g c = grind (arith, common_steps)

pub returns-in-Err-add_thread-clause-unchanged : goal.returns-in-Err-add_thread-clause-unchanged
returns-in-Err-add_thread-clause-unchanged g c = grind (arith, common_steps)
