-- What is drawn of bytes, packet by packet, and of a file, piece by piece.
use Rattle.std.proofs.Common.{◌≡◌, ◌≢◌, ◌+◌, ◌<◌, ◌≤◌, ℕ, zero, suc, refl, sym, ap, subst, ◌∙◌, arith, Bool, true, false, List, [], ◌++◌, drop, length, Option, Some, None, append-nil, append_assoc, drop-drop}
use Rattle.std.proofs.lemmas.List.{length-append, length-drop}
use Rattle.tr_chunk.specs.declared.audit_fault.AuditCause.{AuditCause}
use Rattle.tr_folders.specs.Kept.{file_of}
use Rattle.tr_folders.specs.Tree.{File, IsBroken, Reads}
use Rattle.tr_packet.specs.Decoding.{Begins, first_fault}
use Rattle.tr_packet.specs.Packets.{Contents, packet_size}
use Rattle.tr_packet.specs.declared.faults.PacketFault.{PacketFault}
use Rattle.tr_packet.specs.declared.faults.PacketFault.TheVariants.{Short, BadMagic, BadStreamId, BadSize, BadRecord, SerialOrder, MomentOrder}
use Rattle.tr_picture.specs.Rows.{bytes_row, end_row, faulty, file_row, front_row, judged_row, left_row, row_after}
use Rattle.tr_picture.specs.Steps.{AreFew, HasGone, IsBad, IsHeld, IsStep}
use Rattle.tr_picture.specs.declared.files.Step.{Step}
use Rattle.tr_picture.specs.declared.files.Step.TheVariants as step
use Rattle.tr_picture.specs.declared.frame.Frame.{Frame}
use Rattle.tr_picture.specs.declared.rows.Row.{Row}
use Rattle.tr_survey.proofs.BytesLemmas.{fault_stands, starts}
use Rattle.tr_survey.specs.Streams.{Place, before, cause_of}

-- ---- one step

abbrev more_of : ℕ → Frame → Place → Bool → Row → List ℕ → Row
more_of n f at breaks after rest = bytes_row n f at after rest breaks

step_is : (n : ℕ) (f : Frame) (at : Place) (s : Row) (bytes : List ℕ) (breaks : Bool)
    → bytes_row (suc n) f at s bytes breaks ≡ front_row (more_of n f at breaks) f at s bytes breaks (first_fault bytes)
unfolding bytes_row
step_is n f at s bytes breaks = refl

judged : (n : ℕ) (f : Frame) (at : Place) (s : Row) (p : Contents) (size : ℕ) (bytes more : List ℕ) (breaks : Bool)
    → Begins p (drop size bytes) bytes → size ≡ packet_size p
    → bytes_row (suc n) f at s (bytes ++ more) breaks
    ≡ judged_row (more_of n f at breaks) f at s (bytes ++ more) p (cause_of at.uuid at.stream (before s.tally) p)
judged n f at s p size bytes more breaks begins is =
    let st = starts p size bytes more begins is in
    step_is n f at s (bytes ++ more) breaks
    ∙ ap (front_row (more_of n f at breaks) f at s (bytes ++ more) breaks) st.sound
    ∙ ap (λ (q : Contents). judged_row (more_of n f at breaks) f at s (bytes ++ more) q (cause_of at.uuid at.stream (before s.tally) q)) st.contents

pub packet_step : (n : ℕ) (f : Frame) (at : Place) (s : Row) (p : Contents) (size : ℕ) (bytes more : List ℕ) (breaks : Bool)
    → Begins p (drop size bytes) bytes → size ≡ packet_size p → cause_of at.uuid at.stream (before s.tally) p ≡ None
    → bytes_row (suc n) f at s (bytes ++ more) breaks ≡ bytes_row n f at (row_after f at s p) (drop size bytes ++ more) breaks
packet_step n f at s p size bytes more breaks begins is right =
    let st = starts p size bytes more begins is in
    judged n f at s p size bytes more breaks begins is
    ∙ ap (judged_row (more_of n f at breaks) f at s (bytes ++ more) p) right
    ∙ ap (λ (l : List ℕ). bytes_row n f at (row_after f at s p) l breaks) st.rest

pub cause_step : (n : ℕ) (f : Frame) (at : Place) (s : Row) (p : Contents) (size : ℕ) (bytes more : List ℕ) (breaks : Bool) (cause : AuditCause)
    → Begins p (drop size bytes) bytes → size ≡ packet_size p → cause_of at.uuid at.stream (before s.tally) p ≡ Some cause
    → bytes_row (suc n) f at s (bytes ++ more) breaks ≡ faulty f at s
cause_step n f at s p size bytes more breaks cause begins is wrong =
    judged n f at s p size bytes more breaks begins is
    ∙ ap (judged_row (more_of n f at breaks) f at s (bytes ++ more) p) wrong

end_other : (f : Frame) (at : Place) (s : Row) (bytes : List ℕ) (breaks : Bool) (fault : PacketFault) → fault ≢ Short
    → end_row f at s bytes breaks fault ≡ faulty f at s
end_other f at s bytes breaks Short other = absurd (other refl)
end_other f at s bytes breaks BadMagic other = refl
end_other f at s bytes breaks BadStreamId other = refl
end_other f at s bytes breaks BadSize other = refl
end_other f at s bytes breaks BadRecord other = refl
end_other f at s bytes breaks SerialOrder other = refl
end_other f at s bytes breaks MomentOrder other = refl

fault_step : (n : ℕ) (f : Frame) (at : Place) (s : Row) (bytes more : List ℕ) (breaks : Bool) (fault : PacketFault) → first_fault bytes ≡ Some fault
    → fault ≢ Short → bytes_row (suc n) f at s (bytes ++ more) breaks ≡ faulty f at s
fault_step n f at s bytes more breaks fault is other =
    step_is n f at s (bytes ++ more) breaks
    ∙ ap (front_row (more_of n f at breaks) f at s (bytes ++ more) breaks) (fault_stands bytes more fault is other)
    ∙ end_other f at s (bytes ++ more) breaks fault other

-- at the end of what can be read
end_step : (n : ℕ) (f : Frame) (at : Place) (s : Row) (bytes : List ℕ) → AreFew bytes → bytes_row (suc n) f at s bytes false ≡ left_row f at s bytes
end_step n f at s bytes is = step_is n f at s bytes false ∙ ap (front_row (more_of n f at false) f at s bytes false) is

broken_step : (n : ℕ) (f : Frame) (at : Place) (s : Row) (bytes : List ℕ) → AreFew bytes → bytes_row (suc n) f at s bytes true ≡ faulty f at s
broken_step n f at s bytes is = step_is n f at s bytes true ∙ ap (front_row (more_of n f at true) f at s bytes true) is

-- bytes that don't start with a packet, whatever follows them
pub bad_step : (f : Frame) (at : Place) (s : Row) (bytes : List ℕ) (fault : PacketFault) (came : Step) (after : Row)
    → first_fault bytes ≡ Some fault → IsBad f at s fault came after → IsStep f at s bytes came after
bad_step f at s bytes fault (step.Packet size) after is bad = absurd bad
bad_step f at s bytes fault step.Waits after is bad = (is ∙ ap Some bad.0, bad.1)
bad_step f at s bytes fault step.Stopped after is bad = λ n rest breaks. fault_step n f at s bytes rest breaks fault is bad.0 ∙ sym bad.1

-- ---- held bytes

pub gone_none : (f : Frame) (at : Place) (s : Row) (n : ℕ) (held rest : List ℕ) (breaks : Bool) → length (held ++ rest) < n
    → HasGone f at s n held rest breaks s held
gone_none f at s n held rest breaks enough = record { most = n; enough = enough; goes = refl }

gone_by : (f : Frame) (at : Place) (whole : Row) (s t : Row) (size most : ℕ) (left rest : List ℕ) (breaks : Bool)
    → length (left ++ rest) < most → whole ≡ bytes_row most f at s (left ++ rest) breaks → 0 < size → size ≤ length left
    → ((m : ℕ) → bytes_row (suc m) f at s (left ++ rest) breaks ≡ bytes_row m f at t (drop size left ++ rest) breaks)
    → (m : ℕ) × (length (drop size left ++ rest) < m) × (whole ≡ bytes_row m f at t (drop size left ++ rest) breaks)
gone_by f at whole s t size zero left rest breaks enough goes some within then = absurd (omega arith)
gone_by f at whole s t size (suc m) left rest breaks enough goes some within then = (
  m,
  (let a = length-append left rest in let b = length-append (drop size left) rest in let d = length-drop size left in omega (arith, enough, some, within, a, b, d)),
  goes ∙ then m,
)

pub gone_more : (f : Frame) (at : Place) (s : Row) (n : ℕ) (held rest : List ℕ) (breaks : Bool) (t u : Row) (size i : ℕ)
    → HasGone f at s n held rest breaks t (drop i held) → IsStep f at t (drop i held) (step.Packet size) u
    → HasGone f at s n held rest breaks u (drop (i + size) held)
gone_more f at s n held rest breaks t u size i gone came =
    let next = gone_by f at _ t u size gone.most (drop i held) rest breaks gone.enough gone.goes came.0 came.1 (λ m. came.2 m rest breaks) in
    let whole : HasGone f at s n held rest breaks u (drop size (drop i held)) = record { most = next.0; enough = next.1; goes = next.2 } in
    subst (λ (l : List ℕ). HasGone f at s n held rest breaks u l) (drop-drop size i held) whole

stopped_by : (f : Frame) (at : Place) (whole : Row) (s t : Row) (most : ℕ) (left rest : List ℕ) (breaks : Bool) → length (left ++ rest) < most
    → whole ≡ bytes_row most f at s (left ++ rest) breaks → ((m : ℕ) → bytes_row (suc m) f at s (left ++ rest) breaks ≡ t) → whole ≡ t
stopped_by f at whole s t zero left rest breaks enough goes then = absurd (omega arith)
stopped_by f at whole s t (suc m) left rest breaks enough goes then = goes ∙ then m

pub gone_stopped : (f : Frame) (at : Place) (s : Row) (n : ℕ) (held rest : List ℕ) (breaks : Bool) (t u : Row) (left : List ℕ)
    → HasGone f at s n held rest breaks t left → IsStep f at t left step.Stopped u → bytes_row n f at s (held ++ rest) breaks ≡ u
gone_stopped f at s n held rest breaks t u left gone then =
    stopped_by f at _ t u gone.most left rest breaks gone.enough gone.goes (λ m. then m rest breaks)

-- ---- a file

-- of an open file this is held, and what comes after it is left
pub record ReadSoFar (whole : Row) (f : Frame) (at : Place) (breaks : Bool) (left : Option File) (s : Row) (held : List ℕ) : Type 0 where
  pub rest : List ℕ
  pub left_is : left ≡ Some (file_of rest breaks)
  pub most : ℕ
  pub enough : length (held ++ rest) < most
  pub goes : whole ≡ bytes_row most f at s (held ++ rest) breaks

pub read_start : (f : Frame) (at : Place) (s : Row) (file : File) (left : Option File) → left ≡ Some file
    → ReadSoFar (file_row f at s (Some file)) f at file.breaks left s []
read_start f at s file left is = record {
  rest = file.bytes;
  left_is = is;
  most = suc (length file.bytes);
  enough = omega arith;
  goes = refl;
}

pub read_more : (whole : Row) (f : Frame) (at : Place) (breaks : Bool) (left after : Option File) (s : Row) (held given more : List ℕ)
    → more ≡ held ++ given → (so_far : ReadSoFar whole f at breaks left s held) → ((file : File) → left ≡ Some file → Reads file given after)
    → ReadSoFar whole f at breaks after s more
read_more whole f at breaks left after s held given more is so_far reads =
    let step = reads (file_of so_far.rest breaks) so_far.left_is in
    let same : held ++ so_far.rest ≡ more ++ step.rest =
    ap (λ (l : List ℕ). held ++ l) step.is ∙ sym (append_assoc held given step.rest) ∙ ap (λ (l : List ℕ). l ++ step.rest) (sym is) in
    record {
      rest = step.rest;
      left_is = step.left_is;
      most = so_far.most;
      enough = subst (λ (l : List ℕ). length l < so_far.most) same so_far.enough;
      goes = so_far.goes ∙ ap (λ (l : List ℕ). bytes_row so_far.most f at s l breaks) same;
    }

pub read_held : (whole : Row) (f : Frame) (at : Place) (breaks : Bool) (left : Option File) (s t : Row) (held kept : List ℕ)
    → ReadSoFar whole f at breaks left s held → IsHeld f at s held false t kept → ReadSoFar whole f at breaks left t kept
read_held whole f at breaks left s t held kept so_far is =
    let gone = is.1 so_far.most so_far.rest breaks so_far.enough in
    record {
      rest = so_far.rest;
      left_is = so_far.left_is;
      most = gone.most;
      enough = gone.enough;
      goes = so_far.goes ∙ gone.goes;
    }

pub read_stopped : (whole : Row) (f : Frame) (at : Place) (breaks : Bool) (left : Option File) (s t : Row) (held kept : List ℕ)
    → ReadSoFar whole f at breaks left s held → IsHeld f at s held true t kept → t ≡ whole
read_stopped whole f at breaks left s t held kept so_far is = sym (so_far.goes ∙ is so_far.most so_far.rest breaks so_far.enough)

end_by : (f : Frame) (at : Place) (s : Row) (most : ℕ) (held : List ℕ) → length (held ++ []) < most → AreFew held
    → bytes_row most f at s (held ++ []) false ≡ left_row f at s held
end_by f at s zero held enough few = absurd (omega arith)
end_by f at s (suc m) held enough few = ap (λ (l : List ℕ). bytes_row (suc m) f at s l false) (append-nil held) ∙ end_step m f at s held few

pub read_end : (whole : Row) (f : Frame) (at : Place) (breaks : Bool) (left after : Option File) (s : Row) (held : List ℕ)
    → (so_far : ReadSoFar whole f at breaks left s held) → AreFew held → ((file : File) → left ≡ Some file → Reads file [] after)
    → left_row f at s held ≡ whole
read_end whole f at breaks left after s held so_far few reads =
    let step = reads (file_of so_far.rest breaks) so_far.left_is in
    let none : so_far.rest ≡ [] = step.is ∙ (step.end refl).0 in
    let ends : breaks ≡ false = (step.end refl).1 in
    let enough = subst (λ (l : List ℕ). length (held ++ l) < so_far.most) none so_far.enough in
    sym (so_far.goes
    ∙ ap (λ (l : List ℕ). bytes_row so_far.most f at s (held ++ l) breaks) none
    ∙ ap (λ (b : Bool). bytes_row so_far.most f at s (held ++ []) b) ends
    ∙ end_by f at s so_far.most held enough few)

broken_by : (f : Frame) (at : Place) (s : Row) (most : ℕ) (held : List ℕ) → length (held ++ []) < most → AreFew held
    → bytes_row most f at s (held ++ []) true ≡ faulty f at s
broken_by f at s zero held enough few = absurd (omega arith)
broken_by f at s (suc m) held enough few = ap (λ (l : List ℕ). bytes_row (suc m) f at s l true) (append-nil held) ∙ broken_step m f at s held few

pub read_broken : (whole : Row) (f : Frame) (at : Place) (breaks : Bool) (left : Option File) (s : Row) (held : List ℕ)
    → (so_far : ReadSoFar whole f at breaks left s held) → AreFew held → ((file : File) → left ≡ Some file → IsBroken file) → faulty f at s ≡ whole
read_broken whole f at breaks left s held so_far few breaking =
    let broken = breaking (file_of so_far.rest breaks) so_far.left_is in
    let enough = subst (λ (l : List ℕ). length (held ++ l) < so_far.most) broken.0 so_far.enough in
    sym (so_far.goes
    ∙ ap (λ (l : List ℕ). bytes_row so_far.most f at s (held ++ l) breaks) broken.0
    ∙ ap (λ (b : Bool). bytes_row so_far.most f at s (held ++ []) b) broken.1
    ∙ broken_by f at s so_far.most held enough few)
