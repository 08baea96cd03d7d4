-- At the name of a command clap leaves the rest of the line to that command.
use Rattle.std.proofs.Common.{◌≡◌, ◌∙◌, refl, sym, ap, ap₂, Bool, true, false, List, [], ◌∷◌, ◌++◌, Some, Option, is_some, cond, subst}
use Rattle.std.specs.Prelude.{drop, find, fold, map}
use Rattle.std.specs.Str.{bytes_eq}
use Rattle.std.proofs.lemmas.Slice.Eq.{bytes_eq-Decides}
use Rattle.clap.specs.Walk.{Names, Text, stop_after, Walk, finished, nothing_held, rows_after, settled, walk, walk_from, walked}
use Rattle.clap.specs.Simple.{App, Shape, argument_words, built, entered, names_of}
use Rattle.clap.specs.Faults.{built_fault, check_fault, defaults_fault, entered_fault, fault_of, level_fault, settle_fault, turn_fault, walk_fault}
use Rattle.clap.specs.Kinds.{Kinds, or_else}
use Rattle.clap.specs.Words.{Row, subcommand_of}
use Rattle.clap.proofs.OnLiterals.{clap_on_literals}
use Rattle.clap.proofs.WalkLemmas.{walk_stopped}
use Rattle.tr_command.specs.Asked.{Command, command_named, commands}
use Rattle.tr_command.specs.Language.{IsSimple, script_app}
use Rattle.tr_command.specs.Ordinary.{leaf}

-- after a subcommand no word is at fault at this level
walk_fault-stopped : (s : Shape) (names : Names) (v : Walk) (p : Text × List Text) (words : List Text)
    → walk_fault s names (record v { stopped = Some p }) words ≡ []
unfolding walk_fault walked
walk_fault-stopped s names v p [] = refl
walk_fault-stopped s names v p (word ∷ words) = walk_fault-stopped s names v (p.0, p.1 ++ word ∷ []) words

-- the faults of a command line after its own words
abbrev after_walk : App → Walk → Kinds
after_walk a w = or_else (entered_fault a w.stopped) (or_else (settle_fault a.top.rules a.top.args_override_self w.held)
    (or_else (defaults_fault (settled a.top.rules w.held).rows a.top.rules)
    (check_fault a.top (finished a.top.rules w.held) (is_some (entered a w.stopped)))))

abbrev stopped_at : Text → List Text → Walk
stopped_at n rest = record (walk_from nothing_held) { stopped = Some (n, rest) }

-- the walk stops at the first word, and the rest is the subcommand's
walk-first : (a : App) (n : Text) (rest : List Text) → walked a.top.rules (names_of a) (walk_from nothing_held) n ≡ stopped_at n []
    → walk a.top.rules (names_of a) nothing_held (n ∷ rest) ≡ stopped_at n rest
walk-first a n rest first =
    ap (λ w. fold (walked a.top.rules (names_of a)) w rest) first ∙ sym (walk_stopped a.top.rules (names_of a) (walk_from nothing_held) n [] rest)

fault-first : (a : App) (n : Text) (rest : List Text) → walked a.top.rules (names_of a) (walk_from nothing_held) n ≡ stopped_at n []
    → turn_fault a.top (names_of a) (walk_from nothing_held) n ≡ [] → built_fault a nothing_held (n ∷ rest) ≡ after_walk a (stopped_at n rest)
unfolding walk_fault
fault-first a n rest first none =
    ap₂ (λ (k : Kinds) (w : Walk). or_else (or_else k (walk_fault a.top (names_of a) w rest))
    (after_walk a (walk a.top.rules (names_of a) nothing_held (n ∷ rest)))) none first
    ∙ ap₂ (λ (k : Kinds) (w : Walk). or_else k (after_walk a w))
    (walk_fault-stopped a.top (names_of a) (walk_from nothing_held) (n, []) rest) (walk-first a n rest first)

-- how a command line begins to read a line with this word first
record Begun : Type 0 where
  words : List Text → List Text
  reached : Walk
  turned : Kinds

abbrev begun : App → Text → Begun
begun a n = record {
  words = argument_words a;
  reached = walked (built a).top.rules (names_of (built a)) (walk_from nothing_held) n;
  turned = turn_fault (built a).top (names_of (built a)) (walk_from nothing_held) n;
}

-- it stops at that word, and finds no fault in it
abbrev stopped : Text → Begun
stopped n = record { words = drop 1; reached = stopped_at n []; turned = [] }

fault_of-stopped : (a : App) (program n : Text) (rest : List Text) → begun a n ≡ stopped n
    → fault_of a (program ∷ n ∷ rest) ≡ after_walk (built a) (stopped_at n rest)
fault_of-stopped a program n rest is =
    ap (λ (b : Begun). built_fault (built a) nothing_held (b.words (program ∷ n ∷ rest))) is
    ∙ fault-first (built a) n rest (ap (λ (b : Begun). b.reached) is) (ap (λ (b : Begun). b.turned) is)

subcommand_of-stopped : (a : App) (program n : Text) (rest : List Text) → begun a n ≡ stopped n
    → subcommand_of a (program ∷ n ∷ rest) ≡ entered (built a) (Some (n, rest))
subcommand_of-stopped a program n rest is =
    ap (λ (b : Begun). entered (built a) (stop_after (built a).top.rules (names_of (built a)) (b.words (program ∷ n ∷ rest)))) is
    ∙ ap (λ (w : Walk). entered (built a) w.stopped) (walk-first (built a) n rest (ap (λ (b : Begun). b.reached) is))

-- two functions that agree on all commands agree on the one that is found, and that one passes the test
module _ {Y : Type 0} (test : Command → Bool) (f g : Command → Y) where
  found-first : (b : Bool) (x : Command) (cs : List Command) (c : Command) → test x ≡ b → cond b (Some x) (find test cs) ≡ Some c
      → f x ≡ g x → (find test cs ≡ Some c → (f c ≡ g c) × (test c ≡ true)) → (f c ≡ g c) × (test c ≡ true)
  found-first true x cs c passes is first rest =
      let x-is : x ≡ c = cc in subst (λ y. (f y ≡ g y) × (test y ≡ true)) x-is (first, passes)
  found-first false x cs c passes is first rest = rest is

  pub found-same : (cs : List Command) (c : Command) → find test cs ≡ Some c → map f cs ≡ map g cs → (f c ≡ g c) × (test c ≡ true)
  found-same [] c is same = cc
  found-same (x ∷ cs) c is same =
      let first : f x ≡ g x = cc in
      let rest : map f cs ≡ map g cs = cc in
      found-first (test x) x cs c refl is first (λ passes. found-same cs c passes rest)

-- ---- all commands at once, by computing both sides

each-stops : map (λ (c : Command). begun script_app c.name) commands ≡ map (λ (c : Command). stopped c.name) commands
unfolding clap_on_literals commands
each-stops = refl

-- the faults of the words after a command's name, and what they enter
abbrev Reading : Type 0
Reading = (List Text → Kinds) × (List Text → Option (Text × List Row))

abbrev after_name : Command → Reading
after_name c = (λ words. after_walk (built script_app) (stopped_at c.name words), λ words. entered (built script_app) (Some (c.name, words)))

abbrev of_leaf : Command → Reading
of_leaf c = (
  λ words. or_else (level_fault (leaf c.name c.rules) [] nothing_held words false []) [],
  λ words. Some (c.name, rows_after (leaf c.name c.rules).rules [] words),
)

each-leaf : map after_name commands ≡ map of_leaf commands
unfolding clap_on_literals commands
each-leaf = refl

-- clap finds the faults of the words after a command's name, and enters the command with their rows
pub named-reads : (program word : Text) (words : List Text) (c : Command) → command_named word ≡ Some c
    → (fault_of script_app (program ∷ word ∷ words) ≡ or_else (level_fault (leaf c.name c.rules) [] nothing_held words false []) [])
    × (subcommand_of script_app (program ∷ word ∷ words) ≡ Some (c.name, rows_after (leaf c.name c.rules).rules [] words))
named-reads program word words c is =
    let named = λ (d : Command). bytes_eq d.name word in
    let own = found-same named (λ d. begun script_app d.name) (λ d. stopped d.name) commands c is each-stops in
    let leads = (found-same named after_name of_leaf commands c is each-leaf).0 in
    subst (λ w. (fault_of script_app (program ∷ w ∷ words) ≡ or_else (level_fault (leaf c.name c.rules) [] nothing_held words false []) [])
    × (subcommand_of script_app (program ∷ w ∷ words) ≡ Some (c.name, rows_after (leaf c.name c.rules).rules [] words)))
    ((bytes_eq-Decides c.name word).0 own.1) (
      fault_of-stopped script_app program c.name words own.0 ∙ ap (λ (r : Reading). r.0 words) leads,
      subcommand_of-stopped script_app program c.name words own.0 ∙ ap (λ (r : Reading). r.1 words) leads,
    )

pub script-simple : IsSimple script_app
unfolding clap_on_literals commands
script-simple = (refl, refl)
