-- Texts of packets that are copied one after another.
use Rattle.std.proofs.Common.{◌≡◌, ℕ, zero, suc, ◌+◌, ◌-◌, ◌<◌, ◌≤◌, List, [], ◌∷◌, ◌++◌, length, take, drop, get_or, ap, refl, subst, sym, ◌∙◌, append-nil, append_assoc, length-append, arith}
use Rattle.std.proofs.Math.Seq.{take-add}
use borrow.Rule.Slice.PartMut.{mid_of, post_of, put_mid}
use Rattle.std.proofs.lemmas.List.{drop_all, drop-drop, drop_at, drop_more, get_or-drop, length-drop, length-take, take_all, take_at, take_rest, take-append-le}
use Rattle.tr_border.specs.Texts.{copied, room_after}
use Rattle.tr_packet.specs.Packets.{Contents, packet_text}
use Rattle.tr_packet.specs.Texts.{packets_text}

-- the texts from the packet at this place on
pub from_here : (ps : List Contents) (i : ℕ) (p : Contents) → i < length ps → p ≡ get_or ps i p
    → packets_text (drop i ps) ≡ packet_text p ++ packets_text (drop (i + 1) ps)
from_here ps i p within at =
    ap packets_text (drop_more ps i p within) ∙ ap (λ (q : Contents). packet_text q ++ packets_text (drop (i + 1) ps)) (sym at)

-- the item at this place of what is behind a place
pub item_at : (ps : List Contents) (first index i : ℕ) (p : Contents) → i ≡ first + index
    → p ≡ get_or (take (length ps - first) (drop first ps)) index p → p ≡ get_or ps i p
item_at ps first index i p here at =
    at ∙ ap (λ (l : List Contents). get_or l index p) (take_rest ps first) ∙ get_or-drop first ps index p
    ∙ ap (λ (k : ℕ). get_or ps k p) (sym here)

drop-both : (n : ℕ) (p t : List ℕ) → drop n (p ++ t) ≡ drop n p ++ drop (n - length p) t
drop-both zero [] t = refl
drop-both (suc n) [] t = let all : suc n ≡ suc n - 0 = omega arith in ap (λ (k : ℕ). drop k t) all
drop-both zero (x ∷ p) t =
    let none : 0 ≡ 0 - length (x ∷ p) = omega arith in ap (λ (k : ℕ). (x ∷ p) ++ drop k t) none
drop-both (suc n) (x ∷ p) t =
    let same : n - length p ≡ suc n - length (x ∷ p) = omega arith in
    drop-both n p t ∙ ap (λ (k : ℕ). drop n p ++ drop k t) same

-- what is left behind a text
pub behind : (n : ℕ) (p t : List ℕ) → length p ≤ n → drop (n - length p) t ≡ drop n (p ++ t)
behind n p t all = sym (drop-both n p t ∙ ap (λ (xs : List ℕ). xs ++ drop (n - length p) t) (drop_all n p all))

-- a write to the rest of a room
put-rest : (a : ℕ) (xs ys : List ℕ) → a ≤ length xs → put_mid a (length xs - a) xs ys ≡ take a xs ++ ys
put-rest a xs ys fit =
    let none : post_of a (length xs - a) xs ≡ [] = drop_all (length xs - a) (drop a xs) (omega (arith, fit, length-drop a xs)) in
    ap (λ (t : List ℕ). take a xs ++ (ys ++ t)) none ∙ ap (λ (t : List ℕ). take a xs ++ t) (append-nil ys)

pub mid-rest : (a : ℕ) (xs : List ℕ) → a ≤ length xs → mid_of a (length xs - a) xs ≡ drop a xs
mid-rest a xs fit = take_all (length xs - a) (drop a xs) (omega (arith, fit, length-drop a xs))

-- of what is left, `t` first, `inner` bytes more are copied
pub record Copies (at done inner : ℕ) (t rest whole room room' : List ℕ) : Type 0 where
  pub left : drop (at + inner) (t ++ rest) ≡ drop (done + inner) whole
  pub copies : room' ≡ take (done + inner) whole ++ drop (done + inner) room
  pub within : done + inner ≤ length whole
  pub fits : done + inner ≤ length room

copies_more : (at done inner : ℕ) (t rest whole room now : List ℕ) → drop at (t ++ rest) ≡ drop done whole
    → now ≡ take done whole ++ drop done room → done ≤ length whole → done ≤ length room → inner ≡ copied at t (drop done now)
    → Copies at done inner t rest whole room (take done now ++ room_after at t (drop done now))
copies_more at done inner t rest whole room now left now-is within fits inner-is =
    let front = take done whole in
    let long : length front ≡ done = omega (arith, within, length-take done whole) in
    let begin : take done now ≡ front = ap (take done) now-is ∙ take_at front (drop done room) done long in
    let back : drop done now ≡ drop done room = ap (drop done) now-is ∙ drop_at front (drop done room) done long in
    let inner' : inner ≡ copied at t (drop done room) = inner-is ∙ ap (copied at t) back in
    let short : inner ≤ length (drop at t) = omega (arith, inner', length-drop at t) in
    let whole' = ap length left in
    let next : take inner (drop at t) ≡ take inner (drop done whole) =
    sym (take-append-le inner (drop at t) (drop (at - length t) rest) short) ∙ sym (ap (take inner) (drop-both at t rest)) ∙ ap (take inner) left in
    record {
      left = sym (drop-drop inner at (t ++ rest)) ∙ ap (drop inner) left ∙ drop-drop inner done whole;
      copies = ap (λ (k : ℕ). take done now ++ (take k (drop at t) ++ drop k (drop done now))) (sym inner-is)
          ∙ ap (λ (a : List ℕ). a ++ (take inner (drop at t) ++ drop inner (drop done now))) begin
          ∙ ap (λ (a : List ℕ). front ++ (take inner (drop at t) ++ drop inner a)) back
          ∙ ap (λ (a : List ℕ). front ++ (take inner (drop at t) ++ a)) (drop-drop inner done room)
          ∙ ap (λ (a : List ℕ). front ++ (a ++ drop (done + inner) room)) next
          ∙ sym (append_assoc front (take inner (drop done whole)) (drop (done + inner) room))
          ∙ ap (λ (a : List ℕ). a ++ drop (done + inner) room) (sym (take-add done inner whole));
      within = omega (arith, inner', within, whole', length-drop at (t ++ rest), length-drop done whole, length-append t rest);
      fits = omega (arith, inner', fits, length-drop done room);
    }

-- the same of the packet at this place, where the room is written from `done` on
pub copied_on : (ps : List Contents) (i at done inner : ℕ) (p : Contents) (whole room now part : List ℕ) → i < length ps → p ≡ get_or ps i p
    → drop at (packets_text (drop i ps)) ≡ drop done whole → now ≡ take done whole ++ drop done room → done ≤ length whole
    → done ≤ length room → done ≤ length now → inner ≡ copied at (packet_text p) (mid_of done (length now - done) now)
    → part ≡ room_after at (packet_text p) (mid_of done (length now - done) now)
    → Copies at done inner (packet_text p) (packets_text (drop (i + 1) ps)) whole room (put_mid done (length now - done) now part)
copied_on ps i at done inner p whole room now part inside item left now-is within fits fit inner-is part-is =
    let text = packet_text p in
    let rest = packets_text (drop (i + 1) ps) in
    let back = mid-rest done now fit in
    subst (Copies at done inner text rest whole room)
    (sym (put-rest done now part fit ∙ ap (λ (t : List ℕ). take done now ++ t) (part-is ∙ ap (room_after at text) back)))
    (copies_more at done inner text rest whole room now (sym (ap (drop at) (from_here ps i p inside item)) ∙ left) now-is within fits
    (inner-is ∙ ap (copied at text) back))
