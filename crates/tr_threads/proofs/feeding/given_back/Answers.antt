use Rattle.tr_threads.specs.declared.feeding.LoggedProducer.{LoggedProducer}
use Rattle.tr_threads.proofs.FeedLemmas.{turned_back}
use Rattle.tr_threads.proofs.feeding.given_back.Goals as goal

-- they came the last first, after none, and were turned round
pub returns : goal.returns
returns g c =
    turned_back (λ (s : LoggedProducer g.row.S.Denot). s.producer) c.args.room.items c.unpair-producers.result.items c.reverse.new.self.items c.args.seats.items
    c.requires.0 c.unpair-producers.ensures c.reverse.ensures.items
