-- What was put and what went out where an output fails.
use Rattle.std.proofs.Common.{◌≡◌, ℕ, refl, sym, ap, subst, List, [], ◌∷◌, ◌++◌, append-nil, Option, Some, Result, Ok, Err}
use Rattle.tr_describe.specs.Answers.{described_of, texts_of}
use Rattle.tr_describe.specs.Failures.{fault_of, writes_after}
use Rattle.tr_describe.specs.Put.{IsFrontPut, Text, and_then_put}
use Rattle.tr_describe.specs.Telling.{FailedSo, TellsBy, puts_by, said_text, text_by}
use Rattle.tr_describe.specs.Files.{Declaring}
use Rattle.tr_describe.specs.declared.declarations.Declarations.{Declarations}
use Rattle.tr_describe.specs.declared.described.Described.{Described}
use Rattle.tr_describe.specs.declared.faults.DescribeFault.{DescribeFault}
use Rattle.tr_describe.specs.declared.telling.Outcome.{Outcome}
use Rattle.tr_folders.specs.Tree.{Tree}
use Rattle.std.specs.Result.{IsErr}
use Rattle.tr_survey.specs.Failures as survey
use Rattle.tr_survey.specs.Prefix.{IsPrefixOut}
use Rattle.tr_survey.specs.declared.faults.SurveyFault.{SurveyFault}
use Rattle.tr_survey.specs.declared.faults.SurveyFault.TheVariants as fault

pub all_put : (texts : List Text) (before after : Option (List Text)) → after ≡ and_then_put before texts → IsFrontPut texts before after
all_put texts before after is = record { front = texts; rest = []; parts = sym (append-nil texts); put = is }

pub front_said : (said there : Described (List ℕ)) (before now : Option (List ℕ)) → said ≡ there → IsPrefixOut (said_text said) before now → IsPrefixOut (said_text there) before now
front_said said there before now same is = subst (λ (s : Described (List ℕ)). IsPrefixOut (said_text s) before now) same is

pub told_err : (t : Tree) (dir : List ℕ) (d : Option Declaring) (r : Result Outcome DescribeFault) (put put_now : Option (List Text)) (out out_now : Option (List ℕ))
    → IsErr r → IsFrontPut (puts_by t dir d) put put_now → IsPrefixOut (text_by t dir d) out out_now → TellsBy t dir d r put put_now out out_now
told_err t dir d (Ok outcome) put put_now out out_now failed front line = absurd cc
told_err t dir d (Err fault) put put_now out out_now failed front line = (front, line)

-- reading alone never fails by writing
pub failed_reading : (f : SurveyFault) (puts outs : ℕ) → ((n : ℕ) → survey.writes_after {R = Declarations} (Err f) n ≡ n) → FailedSo (Err (fault_of f)) puts puts outs outs
failed_reading fault.TooMuch puts outs still = (refl, refl)
failed_reading fault.NoMemory puts outs still = (refl, refl)
failed_reading fault.Write puts outs still = absurd (let never = still 0 in cc)

pub still_written : (f : SurveyFault) (n : ℕ) → ((n : ℕ) → survey.writes_after {R = Declarations} (Err f) n ≡ n) → writes_after {R = Declarations} (Err (fault_of f)) n ≡ n
still_written fault.TooMuch n still = refl
still_written fault.NoMemory n still = refl
still_written fault.Write n still = absurd (let never = still 0 in cc)
