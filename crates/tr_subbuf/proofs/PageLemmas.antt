-- A page without records, with a first one, and after one more; a copy of its first records.
use Rattle.std.proofs.Common.{◌≡◌, ℕ, ◌+◌, ◌*◌, ◌≤◌, ◌<◌, ◌^◌, List, [], ◌∷◌, ◌++◌, Option, Some, None, length, ap, subst, refl, sym, ◌∙◌, arith, append_assoc, length-append, leb, ltb, Bool, true, ◌&&◌, zero, suc}
use Rattle.std.proofs.Math.Seq.{take-add}
use Rattle.std.specs.List.{sum_by}
use Rattle.std.specs.Option.{option_map}
use Rattle.std.specs.Prelude.{IfSome, IsTrue, drop, take}
use Rattle.std.proofs.lemmas.Bool.{leb-true, lt-leb, lt-ltb, ltb-true}
use Rattle.tr_packet.proofs.OrderLemmas.{first_holds, second_holds}
use Rattle.std.proofs.lemmas.List.{drop_all, drop-drop, drop-take, take_all, take-take, take_at, drop-append-le, length-drop, length-take, take-append-le}
use Rattle.std.proofs.lemmas.List.Sums.{sum_by-cons}
use Rattle.tr_packet.specs.Decoding.{content_bits_in, contents_in}
use Rattle.tr_packet.specs.Packets.{contents, context_text, header_text, packet_text}
use Rattle.tr_packet.specs.Texts.{HeadFits, body_of}
use Rattle.tr_packet.specs.declared.head.Head.{Head}
use Rattle.std.specs.Int.{w32, w64, from_le_bytes, to_le_bytes}
use Rattle.tr_packet.specs.Stores.{with_extent, with_number}
use Rattle.tr_packet.proofs.LayoutLemmas.{front_read, head_read}
use Rattle.tr_packet.proofs.StoreLemmas.{extent_over, number_written}
use Rattle.tr_record.specs.Records.{Entry, Fits, record_text}
use Rattle.tr_record.specs.Weight.{weight_of, record_weight}
use Rattle.tr_record.specs.Whole.{AreWhole, entries_of}
use Rattle.tr_record.proofs.RecordLemmas.{length-record_text, weight_of-push}
use Rattle.tr_record.proofs.WholeLemmas.{whole_none, whole_push}
use Rattle.tr_subbuf.specs.Page.{IsBegun, IsFront, IsPage, buffer_in, head_beside, limit_of}
use Rattle.tr_subbuf.specs.SubBuffer.{IsShownBy, SubBuffer, empty_buffer, ending, first_record, has_room, joins, sub_buffer, with_record}
use Rattle.tr_terms.specs.declared.limits.TheConstants.{LARGEST_PACKET, PACKET_HEADER}

without : (m c t : List ℕ) → ((m ++ c) ++ []) ++ t ≡ m ++ (c ++ t)
without m c t = simp append_assoc

along : (m c b t : List ℕ) → (m ++ (c ++ b)) ++ t ≡ m ++ (c ++ (b ++ t))
along m c b t = simp append_assoc

-- a header and context, and what is behind it
front_length : (h : Head) (bits : ℕ) (back bytes : List ℕ) → length h.uuid ≡ 16
    → bytes ≡ header_text h ++ (context_text h bits ++ back) → length bytes ≡ PACKET_HEADER + length back
front_length h bits back bytes sixteen is =
    ap (λ (t : List ℕ). length t) is
    ∙ omega (
      arith,
      sixteen,
      length-append (header_text h) (context_text h bits ++ back),
      length-append (context_text h bits) back,
      length-append h.uuid (to_le_bytes w32 0 ++ to_le_bytes w64 h.stream),
    )

behind_front : (h : Head) (bits : ℕ) (back bytes : List ℕ) → bytes ≡ header_text h ++ (context_text h bits ++ back) → HeadFits h
    → bits < 2 ^ 64 → body_of bytes ≡ back
behind_front h bits back bytes is fits below = (front_read (contents h []) bits back bytes is fits below).tail

-- a head that ends at a record's moment
ends_too : (h : Head) (e : Entry) → HeadFits h → Fits e → HeadFits (ending e.moment h)
ends_too h e fits whole = record {
  uuid = fits.uuid;
  stream = fits.stream;
  begin = fits.begin;
  end = omega (arith, whole.moment);
  seq = fits.seq;
  lost = fits.lost;
}

-- ---- numbers that are written over others change no length, and stand there then

pub number_long : (at number : ℕ) (bytes : List ℕ) → at + 8 ≤ length bytes → length (with_number at number bytes) ≡ length bytes
number_long at number bytes long =
    omega (
      arith,
      long,
      length-append (take at bytes) (to_le_bytes w64 number ++ drop (at + 8) bytes),
      length-take at bytes,
      length-drop (at + 8) bytes,
    )

pub extent_long : (end bits : ℕ) (bytes : List ℕ) → PACKET_HEADER ≤ length bytes → length (with_extent end bits bytes) ≡ length bytes
extent_long end bits bytes long =
    omega (
      arith,
      long,
      length-append (take 40 bytes) ((to_le_bytes w64 end ++ (to_le_bytes w64 bits ++ to_le_bytes w64 bits)) ++ drop 64 bytes),
      length-take 40 bytes,
      length-drop 64 bytes,
    )

pub front_long : (h : Head) (bytes : List ℕ) → length h.uuid ≡ 16 → PACKET_HEADER ≤ length bytes
    → length ((header_text h ++ context_text h 0) ++ drop PACKET_HEADER bytes) ≡ length bytes
front_long h bytes sixteen long =
    omega (
      arith,
      sixteen,
      long,
      length-append (header_text h ++ context_text h 0) (drop PACKET_HEADER bytes),
      length-append (header_text h) (context_text h 0),
      length-append h.uuid (to_le_bytes w32 0 ++ to_le_bytes w64 h.stream),
      length-drop PACKET_HEADER bytes,
    )

pub written_back : (len : ℕ) (out new left : List ℕ) → out ≡ new → length new ≡ len → take len (out ++ left) ≡ new
written_back len out new left is long = take_at out left len (ap (λ (t : List ℕ). length t) is ∙ long) ∙ is

-- a size stands in the header
pub size_in_front : (bytes : List ℕ) → content_bits_in (take PACKET_HEADER bytes) ≡ content_bits_in bytes
size_in_front bytes =
    ap (λ (t : List ℕ). from_le_bytes w64 (take 8 t)) (drop-take 48 32 bytes)
    ∙ ap (from_le_bytes w64) (take-take 8 32 (drop 48 bytes) (omega arith))

-- ---- pages

-- a page, and the sub-buffer in it
pub record Holds (bytes : List ℕ) (count limit capacity : ℕ) (b : SubBuffer) : Type 0 where
  pub page : IsPage bytes count limit b.size capacity
  pub view : buffer_in bytes b.size ≡ b

-- bytes as many as a packet's header and context has, with a size of 0, are a page without records
pub page_none : (bytes : List ℕ) (size capacity : ℕ) → length bytes ≡ PACKET_HEADER → content_bits_in bytes ≡ 0 → size ≤ capacity
    → size ≤ LARGEST_PACKET → Holds bytes 0 0 capacity (empty_buffer size)
page_none bytes size capacity long free room small =
    let empty : body_of bytes ≡ [] = drop_all PACKET_HEADER bytes (omega (arith, long)) in
    let gone : entries_of (body_of bytes) ≡ [] = ap entries_of empty ∙ whole_none.1 in
    let none = ap (λ (es : List Entry). length es) gone in
    let weighs = ap weight_of gone in
    record {
      page = record {
        header = omega (arith, long);
        whole = subst AreWhole (sym empty) whole_none.0;
        counted = sym none;
        limited = sym (ap (λ (es : List Entry). limit_of es size) gone);
        used = long ∙ sym weighs;
        within = λ some. absurd (omega (arith, none, some));
        front = subst (λ (es : List Entry). IsFront (head_beside es bytes) bytes) (sym gone) free;
        room = room;
        small = small;
      };
      view = ap (λ (es : List Entry). sub_buffer es size (head_beside es bytes)) gone;
    }

-- a packet's header and context before whole records are a page with these
pub page_of : (h : Head) (body bytes : List ℕ) (es : List Entry) (size capacity : ℕ)
    → bytes ≡ header_text h ++ (context_text h (8 * length bytes) ++ body) → HeadFits h → AreWhole body → entries_of body ≡ es
    → 1 ≤ length es → length bytes ≡ weight_of es → weight_of es ≤ size → size ≤ capacity → size ≤ LARGEST_PACKET
    → Holds bytes (length es) size capacity (sub_buffer es size (Some h))
page_of h body bytes [] size capacity is fits whole records some long within room small = absurd (omega (arith, some))
page_of h body bytes (e ∷ es) size capacity is fits whole records some long within room small =
    let below : 8 * length bytes < 2 ^ 64 = omega (arith, long, within, small) in
    let said = head_read h (8 * length bytes) body bytes is fits below in
    let behind : body_of bytes ≡ body = (front_read (contents h []) (8 * length bytes) body bytes is fits below).tail in
    let all : entries_of (body_of bytes) ≡ e ∷ es = ap entries_of behind ∙ records in
    let counts = ap (λ (xs : List Entry). length xs) all in
    let view : buffer_in bytes size ≡ sub_buffer (e ∷ es) size (Some h) =
    ap (λ (xs : List Entry). sub_buffer xs size (head_beside xs bytes)) all ∙ ap (λ (x : Head). sub_buffer (e ∷ es) size (Some x)) said.0 in
    record {
      page = record {
        header = omega (arith, long);
        whole = subst AreWhole (sym behind) whole;
        counted = sym counts;
        limited = sym (ap (λ (xs : List Entry). limit_of xs size) all);
        used = long ∙ sym (ap weight_of all);
        within = λ _. omega (arith, within, ap weight_of all);
        front = subst (λ (b : SubBuffer). IsFront b.head bytes) (sym view)
            (fits, is ∙ ap (λ (t : List ℕ). header_text h ++ (context_text h (8 * length bytes) ++ t)) (sym behind));
        room = room;
        small = small;
      };
      view = view;
    }

-- what is known of a page that has a record
pub record Begun (bytes : List ℕ) (most size : ℕ) (h : Head) : Type 0 where
  pub fits : HeadFits h
  pub front : bytes ≡ header_text h ++ (context_text h (8 * length bytes) ++ body_of bytes)
  pub view : buffer_in bytes size ≡ sub_buffer (entries_of (body_of bytes)) size (Some h)
  pub limit : most ≡ size
  pub within : weight_of (entries_of (body_of bytes)) ≤ size

pub begun : (bytes : List ℕ) (count limit size capacity : ℕ) → IsPage bytes count limit size capacity
    → 1 ≤ length (entries_of (body_of bytes)) → Begun bytes limit size (contents_in bytes).head
begun bytes count limit size capacity is some = by_records (entries_of (body_of bytes)) refl
  where
    by_records : (es : List Entry) → entries_of (body_of bytes) ≡ es → Begun bytes limit size (contents_in bytes).head
    by_records [] none = absurd (omega (arith, some, ap (λ (xs : List Entry). length xs) none))
    by_records (e ∷ es) all =
        let head : (buffer_in bytes size).head ≡ Some (contents_in bytes).head = ap (λ (xs : List Entry). head_beside xs bytes) all in
        let front : IsFront (Some (contents_in bytes).head) bytes = subst (λ (o : Option Head). IsFront o bytes) head is.front in
        record {
          fits = front.0;
          front = front.1;
          view = ap (sub_buffer (entries_of (body_of bytes)) size) head;
          limit = is.limited ∙ ap (λ (xs : List Entry). limit_of xs size) all;
          within = is.within some;
        }

-- what the bytes show
pub shown : (bytes : List ℕ) (count limit size capacity : ℕ) (b : SubBuffer) → IsPage bytes count limit size capacity
    → buffer_in bytes size ≡ b → IsShownBy b.head b.records bytes
shown bytes count limit size capacity b is view =
    subst (λ (x : SubBuffer). IsShownBy x.head x.records bytes) view (by_records (entries_of (body_of bytes)) refl)
  where
    by_records : (es : List Entry) → entries_of (body_of bytes) ≡ es
        → IsShownBy (buffer_in bytes size).head (buffer_in bytes size).records bytes
    by_records [] none =
        subst (λ (xs : List Entry). IsShownBy (head_beside xs bytes) xs bytes) (sym none)
        (subst (λ (xs : List Entry). IsFront (head_beside xs bytes) bytes) none is.front)
    by_records (e ∷ es) all =
        let h = (contents_in bytes).head in
        let front : IsFront (Some h) bytes = subst (λ (xs : List Entry). IsFront (head_beside xs bytes) bytes) all is.front in
        subst (λ (o : Option Head). IsShownBy o (entries_of (body_of bytes)) bytes) (sym (ap (λ (xs : List Entry). head_beside xs bytes) all))
        (front.1 ∙ ap (λ (n : ℕ). header_text h ++ (context_text h (8 * n) ++ body_of bytes)) is.used
        ∙ ap (λ (t : List ℕ). header_text h ++ (context_text h (8 * weight_of (entries_of (body_of bytes))) ++ t)) is.whole.are.parts)

-- a record before which there was none
pub page_first : (bytes headed with out : List ℕ) (count limit size capacity more : ℕ) (h : Head) (e : Entry)
    → IsPage bytes count limit size capacity → entries_of (body_of bytes) ≡ [] → HeadFits h → Fits e
    → PACKET_HEADER + (24 + length e.payload) ≤ size → capacity ≤ more
    → headed ≡ (header_text h ++ context_text h 0) ++ drop PACKET_HEADER bytes → with ≡ headed ++ record_text e
    → out ≡ with_extent e.moment (8 * length with) with
    → Holds out 1 size more (sub_buffer (e ∷ []) size (Some (ending e.moment h))) × (body_of out ≡ body_of bytes ++ record_text e)
page_first bytes headed with out count limit size capacity more h e is none fits whole room grown headed-is with-is out-is =
    let text = record_text e in
    let long : length bytes ≡ PACKET_HEADER = is.used ∙ ap weight_of none in
    let empty : body_of bytes ≡ [] = drop_all PACKET_HEADER bytes (omega (arith, long)) in
    let with' : with ≡ header_text h ++ (context_text h 0 ++ text) =
    with-is ∙ ap (λ (t : List ℕ). t ++ text) (headed-is ∙ ap (λ (t : List ℕ). (header_text h ++ context_text h 0) ++ t) empty)
    ∙ without (header_text h) (context_text h 0) text in
    let over : out ≡ header_text (ending e.moment h) ++ (context_text (ending e.moment h) (8 * length with) ++ text) =
    out-is ∙ extent_over h 0 e.moment (8 * length with) text with fits.uuid with' in
    let with-long = front_length h 0 text with fits.uuid with' in
    let out-long = front_length (ending e.moment h) (8 * length with) text out fits.uuid over in
    let same : length with ≡ length out = with-long ∙ sym out-long in
    let push = whole_push [] e whole_none.0 whole in
    let records : entries_of text ≡ e ∷ [] = push.1 ∙ ap (λ (es : List Entry). es ++ e ∷ []) whole_none.1 in
    let weighs = weight_of-push [] e in
    let over' = over ∙ ap (λ (n : ℕ). header_text (ending e.moment h) ++ (context_text (ending e.moment h) (8 * n) ++ text)) same in
    let fits' : HeadFits (ending e.moment h) = ends_too h e fits whole in
    let used : length out ≡ weight_of (e ∷ []) = omega (arith, out-long, weighs, length-record_text e) in (
      page_of (ending e.moment h) text out (e ∷ []) size more over' fits' push.0 records (omega arith) used
          (omega (arith, weighs, room)) (omega (arith, is.room, grown)) is.small,
      behind_front (ending e.moment h) (8 * length out) text out over' fits' (omega (arith, used, weighs, room, is.small))
          ∙ ap (λ (t : List ℕ). t ++ text) (sym empty),
    )

-- a record that has room is one more
pub page_put : (bytes with out : List ℕ) (count limit size capacity more : ℕ) (e : Entry) → IsPage bytes count limit size capacity
    → 1 ≤ length (entries_of (body_of bytes)) → Fits e → weight_of (entries_of (body_of bytes)) + (24 + length e.payload) ≤ size
    → capacity ≤ more → with ≡ bytes ++ record_text e → out ≡ with_extent e.moment (8 * length with) with
    → Holds out (count + 1) limit more (with_record e (buffer_in bytes size)) × (body_of out ≡ body_of bytes ++ record_text e)
page_put bytes with out count limit size capacity more e is some whole room grown with-is out-is =
    let text = record_text e in
    let body = body_of bytes in
    let es = entries_of body in
    let h = (contents_in bytes).head in
    let b = begun bytes count limit size capacity is some in
    let bits = 8 * length bytes in
    let with' : with ≡ header_text h ++ (context_text h bits ++ (body ++ text)) =
    with-is ∙ ap (λ (t : List ℕ). t ++ text) b.front ∙ along (header_text h) (context_text h bits) body text in
    let over : out ≡ header_text (ending e.moment h) ++ (context_text (ending e.moment h) (8 * length with) ++ (body ++ text)) =
    out-is ∙ extent_over h bits e.moment (8 * length with) (body ++ text) with b.fits.uuid with' in
    let with-long = front_length h bits (body ++ text) with b.fits.uuid with' in
    let out-long = front_length (ending e.moment h) (8 * length with) (body ++ text) out b.fits.uuid over in
    let same : length with ≡ length out = with-long ∙ sym out-long in
    let push = whole_push body e is.whole whole in
    let weighs = weight_of-push es e in
    let over' = over ∙ ap (λ (n : ℕ). header_text (ending e.moment h) ++ (context_text (ending e.moment h) (8 * n) ++ (body ++ text))) same in
    let fits' : HeadFits (ending e.moment h) = ends_too h e b.fits whole in
    let grows = length-append body text in
    let deep = length-drop PACKET_HEADER bytes in
    let used : length out ≡ weight_of (es ++ e ∷ []) = omega (arith, out-long, grows, deep, weighs, length-record_text e, is.used, is.header) in
    let counts = length-append es (e ∷ []) in
    let held = page_of (ending e.moment h) (body ++ text) out (es ++ e ∷ []) size more over' fits' push.0 push.1 (omega (arith, counts)) used
    (omega (arith, weighs, room)) (omega (arith, is.room, grown)) is.small in (
      record {
        page = subst (λ (n : ℕ). IsPage out n limit size more) (omega (arith, counts, is.counted))
            (subst (λ (l : ℕ). IsPage out (length (es ++ e ∷ [])) l size more) (sym b.limit) held.page);
        view = held.view ∙ ap (with_record e) (sym b.view);
      },
      behind_front (ending e.moment h) (8 * length out) (body ++ text) out over' fits' (omega (arith, used, weighs, room, is.small)),
    )

-- the front says something else
pub page_said : (bytes out : List ℕ) (count limit size capacity : ℕ) (h : Head) → IsPage bytes count limit size capacity
    → 1 ≤ length (entries_of (body_of bytes)) → HeadFits h
    → out ≡ header_text h ++ (context_text h (8 * length bytes) ++ body_of bytes)
    → Holds out count limit capacity (sub_buffer (entries_of (body_of bytes)) size (Some h)) × (body_of out ≡ body_of bytes)
page_said bytes out count limit size capacity h is some fits over =
    let es = entries_of (body_of bytes) in
    let b = begun bytes count limit size capacity is some in
    let out-long = front_length h (8 * length bytes) (body_of bytes) out fits.uuid over in
    let deep = length-drop PACKET_HEADER bytes in
    let same : length bytes ≡ length out = omega (arith, out-long, deep, is.header) in
    let over' = over ∙ ap (λ (n : ℕ). header_text h ++ (context_text h (8 * n) ++ body_of bytes)) same in
    let held = page_of h (body_of bytes) out es size capacity over' fits is.whole refl some (sym same ∙ is.used) b.within is.room is.small in (
      record {
        page = subst (λ (n : ℕ). IsPage out n limit size capacity) (sym is.counted)
            (subst (λ (l : ℕ). IsPage out (length es) l size capacity) (sym b.limit) held.page);
        view = held.view;
      },
      behind_front h (8 * length out) (body_of bytes) out over' fits (omega (arith, same, is.used, b.within, is.small)),
    )

-- a page that says something else has the same records
pub record Said (bytes out : List ℕ) (count most size capacity : ℕ) (f : Head → Head) : Type 0 where
  pub page : IsPage out count most size capacity
  pub view : buffer_in out size ≡ (let b = buffer_in bytes size in record b { head = option_map f b.head })
  pub body : body_of out ≡ body_of bytes ++ []

pub said : (f : Head → Head) (bytes out : List ℕ) (count limit size capacity : ℕ) → IsPage bytes count limit size capacity
    → 1 ≤ length (entries_of (body_of bytes)) → ((h : Head) → HeadFits h → HeadFits (f h))
    → ((h : Head) → HeadFits h → (bits : ℕ) (back : List ℕ) → bytes ≡ header_text h ++ (context_text h bits ++ back)
    → out ≡ header_text (f h) ++ (context_text (f h) bits ++ back))
    → Said bytes out count limit size capacity f
said f bytes out count limit size capacity is some fits-too over =
    let h = (contents_in bytes).head in
    let b = begun bytes count limit size capacity is some in
    let now = page_said bytes out count limit size capacity (f h) is some (fits-too h b.fits)
    (over h b.fits (8 * length bytes) (body_of bytes) b.front) in
    record {
      page = now.0.page;
      view = now.0.view ∙ ap (λ (x : SubBuffer). record x { head = option_map f x.head }) (sym b.view);
      body = now.1 ∙ sym (append_none (body_of bytes));
    }
  where
    append_none : (xs : List ℕ) → xs ++ [] ≡ xs
    append_none [] = refl
    append_none (x ∷ xs) = ap (λ (ys : List ℕ). x ∷ ys) (append_none xs)

-- what a record that joins finds
pub joining : (b : SubBuffer) (len : ℕ) → IsTrue (joins b len)
    → (1 ≤ length b.records) × (weight_of b.records + (24 + len) ≤ b.size)
joining b len h =
    let some = ltb-true 0 (length b.records) (first_holds (ltb 0 (length b.records)) (has_room b len) h) in
    let room = leb-true (weight_of b.records + (24 + len)) b.size (second_holds (ltb 0 (length b.records)) (has_room b len) h) in
    (omega (arith, some), room)

-- a page is emptied
pub page_emptied : (bytes numbered out : List ℕ) (count limit size capacity more : ℕ) → IsPage bytes count limit size capacity
    → numbered ≡ with_number 48 0 bytes → out ≡ take PACKET_HEADER numbered → capacity ≤ more → Holds out 0 0 more (empty_buffer size)
page_emptied bytes numbered out count limit size capacity more is numbered-is out-is grown =
    let long = ap (λ (t : List ℕ). length t) numbered-is ∙ number_long 48 0 bytes (omega (arith, is.header)) in
    let few : length out ≡ PACKET_HEADER = ap (λ (t : List ℕ). length t) out-is ∙ omega (arith, length-take PACKET_HEADER numbered, long, is.header) in
    let free : content_bits_in out ≡ 0 =
    ap content_bits_in out-is ∙ size_in_front numbered
    ∙ ap content_bits_in numbered-is ∙ number_written 48 0 bytes (omega (arith, is.header)) (omega arith) in
    page_none out size more few free (omega (arith, is.room, grown)) is.small

-- each record takes bytes
at_least_one : (es : List Entry) → length es ≤ sum_by record_weight es
at_least_one [] = omega arith
at_least_one (e ∷ es) = omega (arith, at_least_one es, sum_by-cons record_weight e es)

-- so the count is no larger than the size
pub counted_within : (bytes : List ℕ) (count limit size capacity : ℕ) → IsPage bytes count limit size capacity → count ≤ length bytes
counted_within bytes count limit size capacity is = omega (arith, is.counted, is.used, at_least_one (entries_of (body_of bytes)))

-- a copy that was begun is one of the page's first records when more come
pub begun-more : (copy bytes after more : List ℕ) (size capacity : ℕ) → IsBegun copy bytes size capacity
    → body_of after ≡ body_of bytes ++ more → IsBegun copy after size capacity
begun-more copy bytes after more size capacity is grown =
    let few : length (body_of copy) ≤ length (body_of bytes) =
    omega (arith, length-take (length (body_of copy)) (body_of bytes), ap (λ (xs : List ℕ). length xs) is.first) in
    record {
      header = is.header;
      first = ap (take (length (body_of copy))) grown ∙ take-append-le (length (body_of copy)) (body_of bytes) more few ∙ is.first;
      free = is.free;
      whole = is.whole;
    }

prefix : (n : ℕ) (xs : List ℕ) → take (length (take n xs)) xs ≡ take n xs
prefix zero xs = refl
prefix (suc n) [] = refl
prefix (suc n) (x ∷ xs) = ap (λ (ys : List ℕ). x ∷ ys) (prefix n xs)

-- what a copy is after some more bytes
pub record Copied (copy bytes out : List ℕ) (n : ℕ) : Type 0 where
  pub header : take PACKET_HEADER out ≡ take PACKET_HEADER copy
  pub first : take (length (body_of out)) (body_of bytes) ≡ body_of out
  pub all : length bytes ≤ length copy + n → body_of out ≡ body_of bytes

-- so many bytes of a page are left to be copied
pub left-long : (copy bytes : List ℕ) → PACKET_HEADER ≤ length copy → PACKET_HEADER ≤ length bytes
    → take (length (body_of copy)) (body_of bytes) ≡ body_of copy → length copy ≤ length bytes
left-long copy bytes header long first =
    omega (
      arith,
      header,
      long,
      length-take (length (body_of copy)) (body_of bytes),
      ap (λ (xs : List ℕ). length xs) first,
      length-drop PACKET_HEADER copy,
      length-drop PACKET_HEADER bytes,
    )

pub copied_on : (copy bytes next out : List ℕ) (n : ℕ) → PACKET_HEADER ≤ length copy → PACKET_HEADER ≤ length bytes
    → take (length (body_of copy)) (body_of bytes) ≡ body_of copy → next ≡ take n (drop (length copy) bytes) → out ≡ copy ++ next
    → Copied copy bytes out n
copied_on copy bytes next out n header long first next-is out-is =
    let body = body_of bytes in
    let k = length (body_of copy) in
    let place : PACKET_HEADER + k ≡ length copy = omega (arith, header, length-drop PACKET_HEADER copy) in
    let rest : drop (length copy) bytes ≡ drop k body = ap (λ (i : ℕ). drop i bytes) (sym place) ∙ sym (drop-drop k PACKET_HEADER bytes) in
    let grown : body_of out ≡ body_of copy ++ next = ap (drop PACKET_HEADER) out-is ∙ drop-append-le PACKET_HEADER copy next header in
    let all : body_of out ≡ take (k + n) body =
    grown ∙ ap (λ (t : List ℕ). t ++ next) (sym first) ∙ ap (λ (t : List ℕ). take k body ++ t) (next-is ∙ ap (take n) rest)
    ∙ sym (take-add k n body) in
    record {
      header = ap (take PACKET_HEADER) out-is ∙ take-append-le PACKET_HEADER copy next header;
      first = ap (λ (t : List ℕ). take (length t) body) all ∙ prefix (k + n) body ∙ sym all;
      all = λ enough. all ∙ take_all (k + n) body (omega (arith, enough, place, long, length-drop PACKET_HEADER bytes));
    }

-- a copy of more of the first records is one of the same page
pub begun-copied : (copy bytes out : List ℕ) (size capacity more : ℕ) → IsBegun copy bytes size capacity
    → take PACKET_HEADER out ≡ take PACKET_HEADER copy → length copy ≤ length out
    → take (length (body_of out)) (body_of bytes) ≡ body_of out → capacity ≤ more → IsBegun out bytes size more
begun-copied copy bytes out size capacity more is front long first grown = record {
  header = omega (arith, is.header, long);
  first = first;
  free = sym (size_in_front out) ∙ ap content_bits_in front ∙ size_in_front copy ∙ is.free;
  whole = omega (arith, is.whole, grown);
}

-- and one without records is one of any page
pub begun-anew : (copy out before after : List ℕ) (size capacity more : ℕ) → out ≡ take PACKET_HEADER copy → capacity ≤ more
    → IsBegun copy before size capacity → IsBegun out after size more
begun-anew copy out before after size capacity more out-is grown is =
    let few : length out ≡ PACKET_HEADER = ap (λ (t : List ℕ). length t) out-is ∙ omega (arith, length-take PACKET_HEADER copy, is.header) in
    let none : body_of out ≡ [] = drop_all PACKET_HEADER out (omega (arith, few)) in
    record {
      header = omega (arith, few);
      first = ap (λ (t : List ℕ). take (length t) (body_of after)) none ∙ sym none;
      free = ap content_bits_in out-is ∙ size_in_front copy ∙ is.free;
      whole = omega (arith, is.whole, grown);
    }

pub if-some : {X : Type 0} (P Q : X → Type 0) (o : Option X) → ((x : X) → P x → Q x) → IfSome o P → IfSome o Q
if-some P Q None h is = tt
if-some P Q (Some x) h is = h x is

-- there is room for one more behind others if and only if that isn't over the limit
pub limited : (bytes : List ℕ) (count limit size capacity used len : ℕ) → IsPage bytes count limit size capacity
    → used ≡ length bytes → leb (used + 24 + len) limit ≡ joins (buffer_in bytes size) len
limited bytes count limit size capacity used len is used-is = by_records (entries_of (body_of bytes)) refl
  where
    by_records : (es : List Entry) → entries_of (body_of bytes) ≡ es → leb (used + 24 + len) limit ≡ joins (buffer_in bytes size) len
    by_records [] none =
        let l : limit ≡ 0 = is.limited ∙ ap (λ (xs : List Entry). limit_of xs size) none in
        ap (leb (used + 24 + len)) l ∙ lt-leb (used + 24 + len) 0 (omega arith)
        ∙ sym (ap (λ (xs : List Entry). joins (sub_buffer xs size None) len) none)
    by_records (e ∷ es) all =
        let l : limit ≡ size = is.limited ∙ ap (λ (xs : List Entry). limit_of xs size) all in
        let same : used + 24 + len ≡ weight_of (entries_of (body_of bytes)) + (24 + len) = omega (arith, used-is, is.used) in
        let some : ltb 0 (length (e ∷ es)) ≡ true = lt-ltb 0 (length (e ∷ es)) (omega arith) in
        ap (leb (used + 24 + len)) l ∙ ap (λ (n : ℕ). leb n size) same
        ∙ ap (λ (t : Bool). t && leb (weight_of (entries_of (body_of bytes)) + (24 + len)) size) (sym some)
        ∙ ap (λ (xs : List Entry). ltb 0 (length xs) && leb (weight_of (entries_of (body_of bytes)) + (24 + len)) size) (sym all)
