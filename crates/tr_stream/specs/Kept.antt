-- What every stream value keeps.
use Rattle.tr_stream.specs.History.{History}
use Rattle.tr_stream.specs.Placed.{IsPlaced}
use Rattle.tr_stream.specs.Sound.{IsSound}
use Rattle.tr_stream.specs.StandsFor.{StandsFor}
use Rattle.tr_stream.specs.State.{StreamState}

-- it is sound, its parts began one after another, and it stands for some well-formed history
pub record IsKept (s : StreamState) : Type 0 where
  pub sound : IsSound s
  pub placed : IsPlaced s
  pub history : (h : History) × StandsFor s h
