use Rattle.std.proofs.Common.{◌≡◌, ◌+◌, ◌∷◌, ◌++◌, [], arith, zero-add}
use Rattle.std.proofs.lemmas.Grind.{common_steps}
use Rattle.std.proofs.lemmas.List.FromFn.{map-range_with_len_more}
use Rattle.tr_tally.specs.Tallies.{new_tellers, teller_state}
use Rattle.tr_tally.proofs.opener.Opener.tellers.Goals as goal

pub streams-preserved : goal.streams-preserved
streams-preserved g c =
    let k = c.streams.stream in
    let table = c.args.self.now.tally.table in
    let more : new_tellers table (k + 1) ≡ new_tellers table k ++ teller_state table k 0 ∷ [] =
    map-range_with_len_more (λ i. teller_state table i 0) 0 k k (zero-add k) in
    grind (arith, common_steps)
