-- If a stream has a part of an archived chunk, it has a file in that archive.
use Rattle.std.proofs.Common.{◌≡◌, ◌∙◌, ◌<◌, ℕ, List, Option, Some, None, IsSome, length, slice_get, refl, sym, subst, ap}
use Rattle.std.proofs.lemmas.Bool.{false≢true}
use Rattle.std.proofs.lemmas.Option.{slice_get_within}
use Rattle.std.specs.Prelude.{option_and_then, option_map}
use Rattle.tr_book.specs.Parts.{PartState, part_at}
use Rattle.tr_chunk.specs.Files.{file_name, packets_text}
use Rattle.tr_export.specs.Archives.{IsOneFile, part_file, part_of_stream, stream_file}
use Rattle.tr_export.specs.Paths.{path_of}
use Rattle.tr_session.specs.Session.{HasArchivedParts, IsStreamOf, SessionOf}
use Rattle.tr_session_book.specs.BookSteps.{channel_of}
use Rattle.tr_session_book.specs.declared.archive.Archive.{Archive}
use Rattle.tr_session_book.specs.declared.channel.Channel.{Channel}
use Rattle.tr_stream.specs.State.{StreamState}

filed : (folder : List ℕ) (i : ℕ) (name : List ℕ) (part : Option PartState) → IsSome part → IsOneFile (part_file folder i (Some name) part)
filed folder i name None is = absurd (false≢true is)
filed folder i name (Some part) is = (path_of folder (file_name name i), packets_text part.packets, refl)

pub one-file : (folder : List ℕ) (id i : ℕ) (s : SessionOf StreamState) (t : StreamState) → slice_get s.streams i ≡ Some t
    → IsStreamOf s.book i t → IsSome (part_at id t.parts)
    → IsOneFile (stream_file folder id s i)
one-file folder id i s t at of has =
    let named : channel_of i s.book ≡ Some of.channel.0 =
    ap (λ (p : Option ℕ). option_and_then (λ place. option_map (λ (c : List ℕ × Channel). c.0) (slice_get s.book.channels place)) p) of.has_place
    ∙ ap (option_map (λ (c : List ℕ × Channel). c.0)) of.has_channel in
    let held : part_of_stream i id s ≡ part_at id t.parts = ap (option_and_then (λ (stream : StreamState). part_at id stream.parts)) at in
    rw (named, held) (filed folder i of.channel.0 (part_at id t.parts) has)

-- by what a session shows of its archives and of the stream
pub in-archive : (folder : List ℕ) (k i : ℕ) (s : SessionOf StreamState) (archives : List Archive) (archive : Archive)
    (t : StreamState) → archives ≡ s.book.archives
    → ((n : ℕ) (a : Archive) → slice_get archives n ≡ Some a → a.id ≡ n) → slice_get s.book.archives k ≡ Some archive
    → slice_get s.streams i ≡ Some t → IsStreamOf s.book i t → HasArchivedParts s.book t
    → IsOneFile (stream_file folder archive.id s i)
in-archive folder k i s archives archive t same numbered at its of has =
    let id : archive.id ≡ k = numbered k archive (rw same at) in
    let below : k < length s.book.archives = slice_get_within s.book.archives k archive at in
    one-file folder archive.id i s t its of (has archive.id (subst (λ (n : ℕ). n < length s.book.archives) (sym id) below))
