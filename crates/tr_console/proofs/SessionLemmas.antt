-- What the code does to the map of sessions, in terms of the world that the map shows.
use Rattle.std.proofs.Common.{◌≡◌, ◌∙◌, ℕ, Bool, cond, true, false, List, [], ◌∷◌, Option, Some, refl, sym, ap}
use Rattle.std.proofs.lemmas.Option.{slice_get-map}
use Rattle.std.specs.List.{list_all}
use Rattle.std.specs.Map.{lookup, set_value}
use Rattle.std.specs.Prelude.{◌&&◌, String, option_map, slice_get}
use Rattle.std.specs.Str.{bytes_eq}
use Rattle.std.specs.String.{string_bytes}
use Rattle.tr_replies.specs.Text.{Text}
use Rattle.tr_console.specs.World.{World, session_named, with_session, world_of}
use Rattle.tr_events.specs.Events.{Declarations}
use Rattle.tr_session.specs.Session.{SessionOf}
use Rattle.tr_session_book.proofs.NameLemmas.{lookup-by_name, set_value-by_name}
use Rattle.tr_session_book.specs.Names.{AreNamed, by_name}
use Rattle.tr_terms.specs.Names.{is_name}

abbrev pub is_named : {Z : Type 0} → Text → String Z → Bool
is_named name key = bytes_eq name (string_bytes key)

module _ {Z S : Type 0} where
  -- what the map has at a name is the world's session of that name
  pub named-is : (name : Text) (es : List (String Z × SessionOf S)) (events : Declarations)
      → lookup (is_named name) es ≡ session_named name (world_of (by_name es) events)
  named-is name es events = lookup-by_name name es

  -- a session in its place is the world's
  pub set-is : (name : Text) (es : List (String Z × SessionOf S)) (events : Declarations) (s : SessionOf S)
      → world_of (by_name (set_value (is_named name) es s)) events ≡ with_session name (world_of (by_name es) events) s
  set-is name es events s = ap (λ (f : List (Text × SessionOf S)). world_of f events) (set_value-by_name name es s)

  -- what the map has at a place is what the world has there
  pub entry-is : (es : List (String Z × SessionOf S)) (k : ℕ) (o : Option (String Z × SessionOf S)) → o ≡ slice_get es k
      → option_map (λ (e : String Z × SessionOf S). (string_bytes e.0, e.1)) o ≡ slice_get (by_name es) k
  entry-is es k o is = ap (option_map (λ (e : String Z × SessionOf S). (string_bytes e.0, e.1))) is
      ∙ sym (slice_get-map (λ (e : String Z × SessionOf S). (string_bytes e.0, e.1)) es k)

  set-names : (test : String Z → Bool) (es : List (String Z × SessionOf S)) (s : SessionOf S)
      → list_all (λ (e : Text × SessionOf S). is_name e.0) (by_name (set_value test es s))
      ≡ list_all (λ (e : Text × SessionOf S). is_name e.0) (by_name es)
  set-names test [] s = refl
  set-names test (e ∷ es) s = go (test e.0) (set-names test es s)
    where
      go : (b : Bool) → list_all (λ (f : Text × SessionOf S). is_name f.0) (by_name (set_value test es s))
          ≡ list_all (λ (f : Text × SessionOf S). is_name f.0) (by_name es)
          → list_all (λ (f : Text × SessionOf S). is_name f.0) (by_name (cond b ((e.0, s) ∷ es) (e ∷ set_value test es s)))
          ≡ list_all (λ (f : Text × SessionOf S). is_name f.0) (by_name (e ∷ es))
      go true rest = refl
      go false rest = ap (λ (b : Bool). is_name (string_bytes e.0) && b) rest

  -- a session in its place leaves the names
  pub names-kept : (name : Text) (es : List (String Z × SessionOf S)) (s : SessionOf S) → AreNamed (by_name es)
      → AreNamed (by_name (set_value (is_named name) es s))
  names-kept name es s are = set-names (is_named name) es s ∙ are

-- the session of a name in its own place leaves the sessions as they are
same-in : {S : Type 0} → (name : Text) (es : List (Text × SessionOf S)) (s : SessionOf S) → lookup (bytes_eq name) es ≡ Some s
    → set_value (bytes_eq name) es s ≡ es
same-in name [] s found = refl
same-in {S = S} name (e ∷ es) s found = go (bytes_eq name e.0) refl (λ later. same-in name es s later)
  where
    go : (b : Bool) → bytes_eq name e.0 ≡ b → (lookup (bytes_eq name) es ≡ Some s → set_value (bytes_eq name) es s ≡ es)
        → set_value (bytes_eq name) (e ∷ es) s ≡ e ∷ es
    go true t rest =
        let here : Some e.1 ≡ Some s = rw t at found in
        let same : e.1 ≡ s = cc in
        rw t (ap (λ (u : SessionOf S). (e.0, u) ∷ es) (sym same))
    go false t rest = rw t (ap (λ f. e ∷ f) (rest (rw t at found)))

pub same-session : {S : Type 0} → (name : Text) (w : World S) (s : SessionOf S) → session_named name w ≡ Some s → with_session name w s ≡ w
same-session {S = S} name w s found = ap (λ (f : List (Text × SessionOf S)). world_of f w.events) (same-in name w.sessions s found)
