use Rattle.std.proofs.Common.{rules, ◌≡◌, ◌∙◌, ◌≤◌, None, Option, Some, ap}
use Rattle.tr_book.specs.Parts.{PartState, known_from, part_known}
use Rattle.tr_stream.proofs.ForgetLemmas.{known-place, known-part}
use Rattle.tr_stream.proofs.OrderLemmas.{part-ordered}
use Rattle.tr_stream.proofs.PlacedLemmas.{placed-fate, placed-there, starts-rise}
use Rattle.tr_stream.proofs.stream.Stream.chunk_fate.Goals as goal
use Rattle.tr_stream.specs.Fates.{all_parts, fate_in_parts}
use Rattle.tr_stream.specs.State.{StreamState}

pub unreachable-requires : goal.unreachable-requires
unreachable-requires g c =
    let s : StreamState = record {
      config = c.self.inside.config;
      ring = c.self.inside.ring;
      parts = c.self.inside.parts;
      counters = c.self.inside.counters;
      active = c.self.inside.active;
    } in
    let placed = c.self.invariant.placed in
    let rise = starts-rise 0 s.parts.starts s.counters.offered (all_parts s.parts) placed.parts in
    let from : known_from s.parts ≤ c.args.serial = search rules in
    let place = c.place_of.ensures rise from in
    let known = known-place s c.args.serial c.place_of.result placed c.forgotten.ensures.released.closed from place in
    let told : (let o : Option PartState = None in o) ≡ part_known c.place_of.result s.parts = search rules in
    placed-there c.args.serial c.place_of.result s placed place (told ∙ known-part c.place_of.result s.parts known)

pub search-requires : goal.search-requires
search-requires g c =
    let s : StreamState = record {
      config = c.self.inside.config;
      ring = c.self.inside.ring;
      parts = c.self.inside.parts;
      counters = c.self.inside.counters;
      active = c.self.inside.active;
    } in
    let placed = c.self.invariant.placed in
    let rise = starts-rise 0 s.parts.starts s.counters.offered (all_parts s.parts) placed.parts in
    let from : known_from s.parts ≤ c.args.serial = search rules in
    let place = c.place_of.ensures rise from in
    let known = known-place s c.args.serial c.place_of.result placed c.forgotten.ensures.released.closed from place in
    let told : Some c.in-Some.part.now ≡ part_known c.place_of.result s.parts = search rules in
    part-ordered s c.place_of.result c.in-Some.part.now c.self.invariant (told ∙ known-part c.place_of.result s.parts known)

pub returns-in-Some-search : goal.returns-in-Some-search
returns-in-Some-search g c =
    let s : StreamState = record {
      config = c.self.inside.config;
      ring = c.self.inside.ring;
      parts = c.self.inside.parts;
      counters = c.self.inside.counters;
      active = c.self.inside.active;
    } in
    let placed = c.self.invariant.placed in
    let rise = starts-rise 0 s.parts.starts s.counters.offered (all_parts s.parts) placed.parts in
    let from : known_from s.parts ≤ c.args.serial = search rules in
    let place = c.place_of.ensures rise from in
    let known = known-place s c.args.serial c.place_of.result placed c.forgotten.ensures.released.closed from place in
    let told : Some c.in-Some.part.now ≡ part_known c.place_of.result s.parts = search rules in
    let at = told ∙ known-part c.place_of.result s.parts known in
    let same = placed-fate c.args.serial c.place_of.result s c.in-Some.part.now (Some c.in-Some-search.seq) placed place at (search rules)
    ∙ ap (λ (t : StreamState). fate_in_parts c.args.serial (all_parts t.parts)) c.self.view_is in
    rw c.id.ensures same

pub returns-in-None : goal.returns-in-None
returns-in-None g c =
    let s : StreamState = record {
      config = c.self.inside.config;
      ring = c.self.inside.ring;
      parts = c.self.inside.parts;
      counters = c.self.inside.counters;
      active = c.self.inside.active;
    } in
    let placed = c.self.invariant.placed in
    let rise = starts-rise 0 s.parts.starts s.counters.offered (all_parts s.parts) placed.parts in
    let from : known_from s.parts ≤ c.args.serial = search rules in
    let place = c.place_of.ensures rise from in
    let known = known-place s c.args.serial c.place_of.result placed c.forgotten.ensures.released.closed from place in
    let told : Some c.in-Some.part.now ≡ part_known c.place_of.result s.parts = search rules in
    let at = told ∙ known-part c.place_of.result s.parts known in
    placed-fate c.args.serial c.place_of.result s c.in-Some.part.now None placed place at (search rules)
    ∙ ap (λ (t : StreamState). fate_in_parts c.args.serial (all_parts t.parts)) c.self.view_is
