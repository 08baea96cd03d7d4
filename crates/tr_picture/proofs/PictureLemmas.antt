-- What went out of a picture.
use Rattle.std.proofs.Common.{◌≡◌, ℕ, List, [], Option, refl, sym, subst, false}
use Rattle.tr_folders.specs.Tree.{Tree}
use Rattle.tr_picture.specs.Picture.{drawn, picture_of, pictured}
use Rattle.tr_record.proofs.ByteLemmas.{and_then_bytes-none}
use Rattle.tr_survey.specs.Prefix.{IsPrefixOut, IsTold}
use Rattle.tr_survey.specs.Sessions.{survey_of}
use Rattle.tr_survey.specs.Told.{told}
use Rattle.tr_survey.specs.declared.faults.Surveyed.{Surveyed}
use Rattle.tr_survey.specs.declared.faults.Surveyed.TheVariants.{Faults}

pub by_survey : (t : Tree) (dir : List ℕ) (said one : Surveyed) (before now : Option (List ℕ)) → said ≡ (survey_of false t dir).state → said ≡ one
    → IsTold (pictured t dir one) before now one → IsTold (picture_of t dir) before now said
by_survey t dir said one before now is same pictured_one =
    subst (λ (s : Surveyed). IsTold (pictured t dir s) before now said) is
    (subst (λ (s : Surveyed). IsTold (pictured t dir s) before now s) (sym same) pictured_one)

pub nothing_told : (said : Surveyed) (before : Option (List ℕ)) → IsTold (told [] said) before before said
nothing_told said before = record { out = sym (and_then_bytes-none before); state_is = refl }

pub front_by_survey : (t : Tree) (dir : List ℕ) (said : Surveyed) (faults : ℕ) (before now : Option (List ℕ)) → said ≡ (survey_of false t dir).state
    → said ≡ Faults faults → IsPrefixOut (drawn t dir faults) before now → IsPrefixOut (picture_of t dir).text before now
front_by_survey t dir said faults before now is same front =
    subst (λ (s : Surveyed). IsPrefixOut (pictured t dir s).text before now) is
    (subst (λ (s : Surveyed). IsPrefixOut (pictured t dir s).text before now) (sym same) front)
