-- Records that make a packet: one record, one more, and a later end.
use Rattle.std.proofs.Common.{◌≡◌, ℕ, ◌+◌, ◌<◌, ◌≤◌, Bool, true, false, ◌&&◌, leb, List, [], ◌∷◌, ◌++◌, Option, Some, None, refl, arith}
use Rattle.std.specs.Prelude.{IsTrue}
use Rattle.std.specs.List.{AllByRecursion}
use Rattle.std.proofs.lemmas.Bool.{leb-true, le-leb, lt-ltb, eq-eqb}
use Rattle.tr_record.specs.Records.{Entry, Fits}
use Rattle.tr_record.specs.Weight.{record_weight, weight_of}
use Rattle.tr_record.proofs.RecordLemmas.{all_push, all_weaken, weight_of-push}
use Rattle.tr_packet.specs.Order.{follows, serials_rise_after, serials_rise, in_order, starts_at, moments_hold, IsBelow}
use Rattle.tr_packet.specs.Packets.{MakePacket}
use Rattle.tr_terms.specs.declared.limits.TheConstants.{LARGEST_PACKET, LAST_MOMENT}

pub both : (a b : Bool) → a ≡ true → b ≡ true → (a && b) ≡ true
both true b p q = q
both false b p q = p

pub first_holds : (a b : Bool) → (a && b) ≡ true → a ≡ true
first_holds true b h = refl
first_holds false b h = h

pub second_holds : (a b : Bool) → (a && b) ≡ true → b ≡ true
second_holds true b h = h
second_holds false b h = absurd cc

-- ---- serials

pub below_more : (n m : ℕ) (es : List Entry) → n ≤ m → AllByRecursion (IsBelow n) es → AllByRecursion (IsBelow m) es
below_more n m es le = all_weaken (IsBelow n) (IsBelow m) (λ e below. let h : e.serial < n = below in omega arith) es

serials_rise_after-push : (before : Option ℕ) (es : List Entry) (e : Entry) → IsTrue (serials_rise_after before es)
    → follows before e.serial ≡ true → AllByRecursion (IsBelow e.serial) es
    → IsTrue (serials_rise_after before (es ++ e ∷ []))
serials_rise_after-push before [] e rise after below = both (follows before e.serial) true after refl
serials_rise_after-push before (x ∷ xs) e rise after below =
    both (follows before x.serial) (serials_rise_after (Some x.serial) (xs ++ e ∷ []))
    (first_holds (follows before x.serial) (serials_rise_after (Some x.serial) xs) rise)
    (serials_rise_after-push (Some x.serial) xs e
    (second_holds (follows before x.serial) (serials_rise_after (Some x.serial) xs) rise)
    (lt-ltb x.serial e.serial below.0) below.1)

-- a record with a greater serial may follow
pub serials_rise-push : (es : List Entry) (e : Entry) → IsTrue (serials_rise es) → AllByRecursion (IsBelow e.serial) es
    → IsTrue (serials_rise (es ++ e ∷ []))
serials_rise-push es e rise below = serials_rise_after-push None es e rise refl below

-- ---- moments

pub in_order-within : (from to : ℕ) (es : List Entry) → IsTrue (in_order from to es) → from ≤ to
in_order-within from to [] h = leb-true from to h
in_order-within from to (e ∷ es) h =
    let low = leb-true from e.moment (first_holds (leb from e.moment) (in_order e.moment to es) h) in
    let high = in_order-within e.moment to es (second_holds (leb from e.moment) (in_order e.moment to es) h) in
    omega arith

pub in_order-later : (from to later : ℕ) (es : List Entry) → IsTrue (in_order from to es) → to ≤ later → IsTrue (in_order from later es)
in_order-later from to later [] h le = let low = leb-true from to h in le-leb from later (omega arith)
in_order-later from to later (e ∷ es) h le =
    both (leb from e.moment) (in_order e.moment later es) (first_holds (leb from e.moment) (in_order e.moment to es) h)
    (in_order-later e.moment to later es (second_holds (leb from e.moment) (in_order e.moment to es) h) le)

pub in_order-push : (from to : ℕ) (es : List Entry) (e : Entry) → IsTrue (in_order from to es) → to ≤ e.moment
    → IsTrue (in_order from e.moment (es ++ e ∷ []))
in_order-push from to [] e h le =
    let low = leb-true from to h in
    both (leb from e.moment) (leb e.moment e.moment) (le-leb from e.moment (omega arith)) (le-leb e.moment e.moment (omega arith))
in_order-push from to (x ∷ xs) e h le =
    both (leb from x.moment) (in_order x.moment e.moment (xs ++ e ∷ [])) (first_holds (leb from x.moment) (in_order x.moment to xs) h)
    (in_order-push x.moment to xs e (second_holds (leb from x.moment) (in_order x.moment to xs) h) le)

starts_at-push : (begin : ℕ) (es : List Entry) (e : Entry) → IsTrue (starts_at begin es) → IsTrue (starts_at begin (es ++ e ∷ []))
starts_at-push begin [] e h = absurd cc
starts_at-push begin (x ∷ xs) e h = h

-- what moments_hold says, part by part
pub record Hold (begin end : ℕ) (es : List Entry) : Type 0 where
  pub starts : IsTrue (starts_at begin es)
  pub order : IsTrue (in_order begin end es)
  pub limit : end ≤ LAST_MOMENT

pub moments_hold_says : (begin end : ℕ) (es : List Entry) → IsTrue (moments_hold begin end es) → Hold begin end es
moments_hold_says begin end es h =
    let rest = second_holds (starts_at begin es) (in_order begin end es && leb end LAST_MOMENT) h in
    record {
      starts = first_holds (starts_at begin es) (in_order begin end es && leb end LAST_MOMENT) h;
      order = first_holds (in_order begin end es) (leb end LAST_MOMENT) rest;
      limit = leb-true end LAST_MOMENT (second_holds (in_order begin end es) (leb end LAST_MOMENT) rest);
    }

pub moments_hold_from : (begin end : ℕ) (es : List Entry) → Hold begin end es → IsTrue (moments_hold begin end es)
moments_hold_from begin end es h =
    both (starts_at begin es) (in_order begin end es && leb end LAST_MOMENT) h.starts
    (both (in_order begin end es) (leb end LAST_MOMENT) h.order (le-leb end LAST_MOMENT h.limit))

-- ---- packets

-- one record makes a packet
pub MakePacket-one : (e : Entry) → Fits e → weight_of (e ∷ []) ≤ LARGEST_PACKET → MakePacket e.moment e.moment (e ∷ [])
MakePacket-one e fits small = record {
  fits = (fits, tt);
  serials = refl;
  moments = moments_hold_from e.moment e.moment (e ∷ []) (record {
    starts = eq-eqb e.moment e.moment refl;
    order = both (leb e.moment e.moment) (leb e.moment e.moment) (le-leb e.moment e.moment (omega arith)) (le-leb e.moment e.moment (omega arith));
    limit = fits.moment;
  });
  small = small;
}

-- and so does one more record, with a greater serial and no earlier moment
pub MakePacket-push : (begin end : ℕ) (es : List Entry) (e : Entry) → MakePacket begin end es → Fits e
    → AllByRecursion (IsBelow e.serial) es → end ≤ e.moment → weight_of es + record_weight e ≤ LARGEST_PACKET
    → MakePacket begin e.moment (es ++ e ∷ [])
MakePacket-push begin end es e p fits below le small =
    let h = moments_hold_says begin end es p.moments in
    record {
      fits = all_push Fits es e p.fits fits;
      serials = serials_rise-push es e p.serials below;
      moments = moments_hold_from begin e.moment (es ++ e ∷ []) (record {
        starts = starts_at-push begin es e h.starts;
        order = in_order-push begin end es e h.order le;
        limit = fits.moment;
      });
      small = omega (arith, weight_of-push es e);
    }

-- a packet may be closed later
pub MakePacket-later : (begin end later : ℕ) (es : List Entry) → MakePacket begin end es → end ≤ later → later ≤ LAST_MOMENT
    → MakePacket begin later es
MakePacket-later begin end later es p le limit =
    let h = moments_hold_says begin end es p.moments in
    record {
      fits = p.fits;
      serials = p.serials;
      moments = moments_hold_from begin later es (record { starts = h.starts; order = in_order-later begin end later es h.order le; limit = limit });
      small = p.small;
    }
