-- What is made of an archive, and how far.
use Rattle.std.proofs.Common.{◌≡◌, ◌-◌, ◌≤◌, ◌∙◌, ℕ, List, [], ◌∷◌, ◌++◌, Option, ap, arith, drop, drop-cons, get_or, length, refl, sym, take, take_all}
use Rattle.std.proofs.lemmas.List.{length-drop}
use Rattle.std.specs.Prelude.{codes}
use Rattle.tr_export.proofs.MakingLemmas.{front_after, front_before, made_after}
use Rattle.tr_export.specs.Making.{MadePrefix, Makings, and_then_made}
use Rattle.tr_export.specs.Paths.{path_of}
use Rattle.tr_export.specs.declared.made.Made.TheVariants.{File, Folder}
use Rattle.tr_packet.specs.Packets.{Contents}
use Rattle.tr_recover.specs.Archive.{folder_for, recovered_made, streams_made}

-- an archive by its folder and the path of its metadata
pub record IsFor (dir folder path : List ℕ) (packets : List Contents) : Type 0 where
  pub first : Contents
  pub others : List Contents
  pub are : packets ≡ first ∷ others
  pub folder_is : folder ≡ folder_for dir first others
  pub path_is : path ≡ path_of folder (codes "metadata")

-- a slice is its first packet and the others
abbrev pub others_of : List Contents → List Contents
others_of ps = take (length ps - 1) (drop 1 ps)

pub first_of_all : (ps : List Contents) (p : Contents) → 1 ≤ length ps → p ≡ get_or ps 0 p → ps ≡ p ∷ others_of ps
first_of_all ps p some is =
    drop-cons ps 0 p some ∙ ap (λ (x : Contents). x ∷ drop 1 ps) (sym is)
    ∙ ap (λ (xs : List Contents). p ∷ xs) (sym (take_all (length ps - 1) (drop 1 ps) (omega (arith, length-drop 1 ps))))

parts : (dir metadata folder path : List ℕ) (packets : List Contents) → IsFor dir folder path packets
    → recovered_made dir metadata packets ≡ Folder folder ∷ (streams_made folder packets ++ File path metadata ∷ [])
parts dir metadata folder path packets it =
    ap (recovered_made dir metadata) it.are
    ∙ ap (λ (f : List ℕ). Folder f ∷ (streams_made f (it.first ∷ it.others) ++ File (path_of f (codes "metadata")) metadata ∷ [])) (sym it.folder_is)
    ∙ ap (λ (ps : List Contents). Folder folder ∷ (streams_made folder ps ++ File (path_of folder (codes "metadata")) metadata ∷ [])) (sym it.are)
    ∙ ap (λ (t : List ℕ). Folder folder ∷ (streams_made folder packets ++ File t metadata ∷ [])) (sym it.path_is)

pub all_made : (dir metadata folder path : List ℕ) (packets : List Contents) (start one two three : Option Makings) → IsFor dir folder path packets
    → one ≡ and_then_made start (Folder folder ∷ []) → two ≡ and_then_made one (streams_made folder packets)
    → three ≡ and_then_made two (File path metadata ∷ []) → three ≡ and_then_made start (recovered_made dir metadata packets)
all_made dir metadata folder path packets start one two three it first second third =
    made_after start one three (Folder folder ∷ []) (streams_made folder packets ++ File path metadata ∷ []) first
    (made_after one two three (streams_made folder packets) (File path metadata ∷ []) second third)
    ∙ ap (and_then_made start) (sym (parts dir metadata folder path packets it))

pub streams_cut : (dir metadata folder path : List ℕ) (packets : List Contents) (start one after : Option Makings) → IsFor dir folder path packets
    → one ≡ and_then_made start (Folder folder ∷ []) → MadePrefix one after (streams_made folder packets)
    → MadePrefix start after (recovered_made dir metadata packets)
streams_cut dir metadata folder path packets start one after it first cut =
    front_after start one after (Folder folder ∷ []) (streams_made folder packets ++ File path metadata ∷ []) (recovered_made dir metadata packets)
    (parts dir metadata folder path packets it) first
    (front_before one after (streams_made folder packets) (File path metadata ∷ []) (streams_made folder packets ++ File path metadata ∷ []) refl cut)

pub metadata_cut : (dir metadata folder path : List ℕ) (packets : List Contents) (start one two after : Option Makings) → IsFor dir folder path packets
    → one ≡ and_then_made start (Folder folder ∷ []) → two ≡ and_then_made one (streams_made folder packets)
    → MadePrefix two after (File path metadata ∷ []) → MadePrefix start after (recovered_made dir metadata packets)
metadata_cut dir metadata folder path packets start one two after it first second cut =
    front_after start one after (Folder folder ∷ []) (streams_made folder packets ++ File path metadata ∷ []) (recovered_made dir metadata packets)
    (parts dir metadata folder path packets it) first
    (front_after one two after (streams_made folder packets) (File path metadata ∷ []) (streams_made folder packets ++ File path metadata ∷ []) refl
    second cut)
