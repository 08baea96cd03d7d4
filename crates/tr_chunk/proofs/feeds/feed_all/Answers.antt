use Rattle.std.proofs.Common.{◌≡◌, ◌+◌, ◌++◌, [], ℕ, List, IfNone, length, get_or, take, rules, arith, ap, subst, Bor, length-append}
use Rattle.std.proofs.lemmas.List.{take_all}
use Rattle.tr_chunk.specs.Reading.{HasRead, bytes_fed}
use Rattle.tr_chunk.proofs.FeedsLemmas.{fed_before, feed_fits, bytes_more, read_more, read_rest, answered_fault, answered_none}
use Rattle.tr_chunk.proofs.feeds.feed_all.Goals as goal

pub feed-requires : goal.feed-requires
feed-requires g c =
    feed_fits c.args.reader.now c.loop-at.reader c.args.feeds.now c.loop-at.at (record { ref_ptr = (0, 0); now = [] }) c.loop-at.invariant
    c.loop-at-test.true c.requires.few

pub loop-at-init : goal.loop-at-init
loop-at-init g c = fed_before c.args.reader.now c.args.feeds.now c.requires.none

pub loop-at-preserved : goal.loop-at-preserved
loop-at-preserved g c =
    let at = c.loop-at.at in
    let none : Bor (List ℕ) = record { ref_ptr = (0, 0); now = [] } in
    let counted : c.feed.new.self.bytes ≡ c.loop-at.reader.bytes + length (get_or c.args.feeds.now at none).now =
    (subst (λ met. IfNone met ((c.feed.new.self.bytes ≡ c.loop-at.reader.bytes + length (get_or c.args.feeds.now at none).now)
    × (c.feed.new.self.pieces ≡ c.loop-at.reader.pieces))) c.loop-at.invariant.none c.feed.ensures.counts).0 in
    record {
      none = answered_none c.feed.new.self.fault (search rules);
      counts =
          omega (
            arith,
            c.loop-at.invariant.counts,
            counted,
            ap length (bytes_more c.args.feeds.now at none c.loop-at-test.true),
            length-append (bytes_fed (take at c.args.feeds.now)) (get_or c.args.feeds.now at none).now,
          );
      read = λ uuid stream done piece has.
          read_more uuid stream done piece c.feed.new.self c.args.feeds.now at none c.loop-at-test.true
          (c.feed.ensures.read uuid stream done (piece ++ bytes_fed (take at c.args.feeds.now)) (c.loop-at.invariant.read uuid stream done piece has));
    }

pub returns-in_err-feed-clause-read : goal.returns-in_err-feed-clause-read
returns-in_err-feed-clause-read g c =
    let at = c.loop-at.at in
    let none : Bor (List ℕ) = record { ref_ptr = (0, 0); now = [] } in
    let met = answered_fault c.feed.new.self.fault c.in_err-feed.field-0.0 (search rules) in
    λ uuid stream done piece has.
    read_rest uuid stream done piece c.feed.new.self c.in_err-feed.field-0.0 c.args.feeds.now (at + 1) met
    (read_more uuid stream done piece c.feed.new.self c.args.feeds.now at none c.loop-at-test.true
    (c.feed.ensures.read uuid stream done (piece ++ bytes_fed (take at c.args.feeds.now)) (c.loop-at.invariant.read uuid stream done piece has)))

pub returns-clause-read : goal.returns-clause-read
returns-clause-read g c = λ uuid stream done piece has.
    subst (λ (l : List (Bor (List ℕ))). HasRead uuid stream done (piece ++ bytes_fed l) c.loop-at.reader)
    (take_all c.loop-at.at c.args.feeds.now c.loop-at-test.false) (c.loop-at.invariant.read uuid stream done piece has)
