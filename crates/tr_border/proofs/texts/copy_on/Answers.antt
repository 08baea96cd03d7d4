use Rattle.std.proofs.Common.{rules, ◌≡◌, ◌<◌, ◌+◌, ◌-◌, ◌≤◌, ◌++◌, ◌∙◌, List, ℕ, ap, drop, length, sym, take, arith}
use Rattle.std.proofs.lemmas.List.{length-drop, take_rest}
use borrow.Rule.Slice.PartMut.{mid_of}
use Rattle.tr_border.proofs.CopyLemmas.{behind, copied_on, from_here, item_at, mid-rest}
use Rattle.tr_border.proofs.texts.copy_on.Goals as goal
use Rattle.tr_border.specs.Texts.{copied, room_after, text_from}
use Rattle.tr_packet.specs.Packets.{packet_text}
use Rattle.tr_packet.specs.Texts.{packets_text}

pub loop-text-preserved : goal.loop-text-preserved
loop-text-preserved c =
    let ps = c.args.texts.now in
    let i = c.loop-text.place.packet in
    let at = c.loop-text.place.at in
    let room = c.args.room.now in
    let now = c.loop-text.room in
    let done = c.loop-text.done in
    let inner = c.copy_from-count.result in
    let text = packet_text c.text-item.result in
    let items = ap length (take_rest ps c.min-first.result) ∙ length-drop c.min-first.result ps in
    let here : i ≡ c.min-first.result + c.loop-text.text-index =
    omega (arith, c.min-first.ensures, c.loop-text-test.true, items, c.loop-text.invariant.next) in
    let inside : i < length ps = omega (arith, here, c.loop-text-test.true, items) in
    let same : length now ≡ length room = search rules in
    let fit : done ≤ length now = omega (arith, same, c.loop-text.invariant.fits) in
    let item = item_at ps c.min-first.result c.loop-text.text-index i c.text-item.result here c.text-item.is in
    let goes = c.copy_from-count.ensures.count
    ∙ ap (λ (t : List ℕ). copied at t (mid_of done (length now - done) now)) c.text-in-loop-text.ensures.text in
    let more = copied_on ps i at done inner c.text-item.result (text_from c.args.place.now ps) room now c.copy_from-count.new.room inside item
    c.loop-text.invariant.left c.loop-text.invariant.room c.loop-text.invariant.within c.loop-text.invariant.fits fit goes
    (c.copy_from-count.ensures.room ∙ ap (λ (t : List ℕ). room_after at t (mid_of done (length now - done) now)) c.text-in-loop-text.ensures.text) in
    let size : length c.text.result.now ≡ length text = ap length c.text.ensures.text in
    let over : length text ≤ at + inner = omega (arith, size, c.if-place-size.false) in
    record {
      left = ap (λ (n : ℕ). drop (at + inner - n) (packets_text (drop (i + 1) ps))) size
          ∙ behind (at + inner) text (packets_text (drop (i + 1) ps)) over ∙ more.left;
      room = more.copies;
      within = more.within;
      fits = more.fits;
      next = omega (arith, c.loop-text.invariant.next);
    }

pub returns-then-place-size : goal.returns-then-place-size
returns-then-place-size c =
    let ps = c.args.texts.now in
    let i = c.loop-text.place.packet in
    let at = c.loop-text.place.at in
    let room = c.args.room.now in
    let now = c.loop-text.room in
    let done = c.loop-text.done in
    let inner = c.copy_from-count.result in
    let text = packet_text c.text-item.result in
    let items = ap length (take_rest ps c.min-first.result) ∙ length-drop c.min-first.result ps in
    let here : i ≡ c.min-first.result + c.loop-text.text-index =
    omega (arith, c.min-first.ensures, c.loop-text-test.true, items, c.loop-text.invariant.next) in
    let inside : i < length ps = omega (arith, here, c.loop-text-test.true, items) in
    let same : length now ≡ length room = search rules in
    let fit : done ≤ length now = omega (arith, same, c.loop-text.invariant.fits) in
    let item = item_at ps c.min-first.result c.loop-text.text-index i c.text-item.result here c.text-item.is in
    let goes = c.copy_from-count.ensures.count
    ∙ ap (λ (t : List ℕ). copied at t (mid_of done (length now - done) now)) c.text-in-loop-text.ensures.text in
    let more = copied_on ps i at done inner c.text-item.result (text_from c.args.place.now ps) room now c.copy_from-count.new.room inside item
    c.loop-text.invariant.left c.loop-text.invariant.room c.loop-text.invariant.within c.loop-text.invariant.fits fit goes
    (c.copy_from-count.ensures.room ∙ ap (λ (t : List ℕ). room_after at t (mid_of done (length now - done) now)) c.text-in-loop-text.ensures.text) in
    let size : length c.text.result.now ≡ length text = ap length c.text.ensures.text in
    let left = ap length (mid-rest done now fit) ∙ length-drop done now in
    let counts : done + inner ≡ copied 0 (text_from c.args.place.now ps) room =
    omega (arith, goes, left, same, more.within, size, c.if-place-size.true) in
    record {
      counts = counts;
      copies = more.copies ∙ ap (λ (k : ℕ). take k (text_from c.args.place.now ps) ++ drop k room) counts;
      moves = ap (drop (at + inner)) (from_here ps i c.text-item.result inside item) ∙ more.left;
    }
