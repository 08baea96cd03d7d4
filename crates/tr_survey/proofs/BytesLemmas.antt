-- What is reported of bytes, packet by packet.
use Rattle.std.proofs.Common.{◌≡◌, ◌≢◌, ◌+◌, ℕ, suc, refl, sym, ap, subst, ◌∙◌, Bool, true, false, List, [], ◌++◌, drop, Option, Some, None, append_assoc}
use Rattle.std.proofs.lemmas.List.{drop-append-le}
use Rattle.tr_chunk.proofs.AuditLemmas.{front_within}
use Rattle.tr_chunk.proofs.WaitingLemmas.{cause_stays}
use Rattle.tr_chunk.specs.Audit.{capped_count}
use Rattle.tr_chunk.specs.declared.audit_fault.AuditCause.{AuditCause}
use Rattle.tr_chunk.specs.declared.audit_fault.AuditCause.TheVariants.{Packet}
use Rattle.tr_packet.proofs.DecodingLemmas.{packet_read}
use Rattle.tr_packet.specs.Decoding.{Begins, contents_in, first_fault}
use Rattle.tr_packet.specs.Packets.{Contents, packet_size, packet_text}
use Rattle.tr_packet.specs.declared.faults.PacketFault.{PacketFault}
use Rattle.tr_packet.specs.declared.faults.PacketFault.TheVariants.{Short, BadMagic, BadStreamId, BadSize, BadRecord, SerialOrder, MomentOrder}
use Rattle.tr_survey.specs.Prefix.{IsTold}
use Rattle.tr_survey.specs.Steps.{IsBad, IsStep}
use Rattle.tr_survey.specs.declared.files.Step.{Step}
use Rattle.tr_survey.specs.declared.files.Step.TheVariants as step
use Rattle.tr_survey.specs.Streams.{Place, before, bytes_told, cause_of, end_told, fault_told, front_told, judged_told, left_told, packet_told, tally_after, unreadable_told}
use Rattle.tr_survey.specs.Told.{Told, and_then}
use Rattle.tr_survey.specs.declared.tally.Tally.{Tally}

same_cause : (f g : PacketFault) → Packet f ≡ Packet g → f ≡ g
same_cause f g e = cc

-- a fault other than too few bytes stays, whatever follows
pub fault_stands : (bytes more : List ℕ) (f : PacketFault) → first_fault bytes ≡ Some f → f ≢ Short → first_fault (bytes ++ more) ≡ Some f
fault_stands bytes more f is other = cause_stays 0 [] 0 None None (Packet f) bytes more is (λ e. other (same_cause f Short e))

-- the bytes start with a packet, whatever follows
pub record Starts (p : Contents) (n : ℕ) (bytes more : List ℕ) : Type 0 where
  pub sound : first_fault (bytes ++ more) ≡ None
  pub contents : contents_in (bytes ++ more) ≡ p
  pub rest : drop (packet_size p) (bytes ++ more) ≡ drop n bytes ++ more

pub starts : (p : Contents) (n : ℕ) (bytes more : List ℕ) → Begins p (drop n bytes) bytes → n ≡ packet_size p → Starts p n bytes more
starts p n bytes more begins size =
    let longer : Begins p (drop n bytes ++ more) (bytes ++ more) = record {
      packet = begins.packet;
      parts = ap (λ (l : List ℕ). l ++ more) begins.parts ∙ append_assoc (packet_text p) (drop n bytes) more;
    } in
    let read = packet_read p (drop n bytes ++ more) (bytes ++ more) longer in
    record {
      sound = read.sound;
      contents = read.contents;
      rest =
          ap (λ (m : ℕ). drop m (bytes ++ more)) (sym size)
          ∙ drop-append-le n bytes more (front_within p n bytes begins size).1;
    }

-- ---- one step

abbrev more_of : ℕ → Place → Bool → Tally → ℕ → List ℕ → Told Tally
more_of n at breaks after further rest = bytes_told n at after further rest breaks

step_is : (n : ℕ) (at : Place) (s : Tally) (offset : ℕ) (bytes : List ℕ) (breaks : Bool)
    → bytes_told (suc n) at s offset bytes breaks ≡ front_told (more_of n at breaks) at s offset bytes breaks (first_fault bytes)
unfolding bytes_told
step_is n at s offset bytes breaks = refl

judged : (n : ℕ) (at : Place) (s : Tally) (offset : ℕ) (p : Contents) (size : ℕ) (bytes more : List ℕ) (breaks : Bool)
    → Begins p (drop size bytes) bytes → size ≡ packet_size p
    → bytes_told (suc n) at s offset (bytes ++ more) breaks
    ≡ judged_told (more_of n at breaks) at s offset (bytes ++ more) p (cause_of at.uuid at.stream (before s) p)
judged n at s offset p size bytes more breaks begins is =
    let st = starts p size bytes more begins is in
    step_is n at s offset (bytes ++ more) breaks
    ∙ ap (front_told (more_of n at breaks) at s offset (bytes ++ more) breaks) st.sound
    ∙ ap (λ (q : Contents). judged_told (more_of n at breaks) at s offset (bytes ++ more) q (cause_of at.uuid at.stream (before s) q)) st.contents

pub packet_step : (n : ℕ) (at : Place) (s : Tally) (offset : ℕ) (p : Contents) (size : ℕ) (bytes more : List ℕ) (breaks : Bool)
    → Begins p (drop size bytes) bytes → size ≡ packet_size p → cause_of at.uuid at.stream (before s) p ≡ None
    → bytes_told (suc n) at s offset (bytes ++ more) breaks
    ≡ and_then (packet_told at s offset p) (bytes_told n at (tally_after at s p) (capped_count (offset + size)) (drop size bytes ++ more) breaks)
packet_step n at s offset p size bytes more breaks begins is right =
    let st = starts p size bytes more begins is in
    judged n at s offset p size bytes more breaks begins is
    ∙ ap (judged_told (more_of n at breaks) at s offset (bytes ++ more) p) right
    ∙ ap (λ (l : List ℕ). and_then (packet_told at s offset p) (bytes_told n at (tally_after at s p) (capped_count (offset + packet_size p)) l breaks)) st.rest
    ∙ ap (λ (k : ℕ). and_then (packet_told at s offset p) (bytes_told n at (tally_after at s p) (capped_count (offset + k)) (drop size bytes ++ more) breaks)) (sym is)

pub cause_step : (n : ℕ) (at : Place) (s : Tally) (offset : ℕ) (p : Contents) (size : ℕ) (bytes more : List ℕ) (breaks : Bool) (cause : AuditCause)
    → Begins p (drop size bytes) bytes → size ≡ packet_size p → cause_of at.uuid at.stream (before s) p ≡ Some cause
    → bytes_told (suc n) at s offset (bytes ++ more) breaks ≡ fault_told at s offset cause
cause_step n at s offset p size bytes more breaks cause begins is wrong =
    judged n at s offset p size bytes more breaks begins is
    ∙ ap (judged_told (more_of n at breaks) at s offset (bytes ++ more) p) wrong

end_other : (at : Place) (s : Tally) (offset : ℕ) (bytes : List ℕ) (breaks : Bool) (f : PacketFault) → f ≢ Short
    → end_told at s offset bytes breaks f ≡ fault_told at s offset (Packet f)
end_other at s offset bytes breaks Short other = absurd (other refl)
end_other at s offset bytes breaks BadMagic other = refl
end_other at s offset bytes breaks BadStreamId other = refl
end_other at s offset bytes breaks BadSize other = refl
end_other at s offset bytes breaks BadRecord other = refl
end_other at s offset bytes breaks SerialOrder other = refl
end_other at s offset bytes breaks MomentOrder other = refl

pub fault_step : (n : ℕ) (at : Place) (s : Tally) (offset : ℕ) (bytes more : List ℕ) (breaks : Bool) (f : PacketFault) → first_fault bytes ≡ Some f
    → f ≢ Short → bytes_told (suc n) at s offset (bytes ++ more) breaks ≡ fault_told at s offset (Packet f)
fault_step n at s offset bytes more breaks f is other =
    step_is n at s offset (bytes ++ more) breaks
    ∙ ap (front_told (more_of n at breaks) at s offset (bytes ++ more) breaks) (fault_stands bytes more f is other)
    ∙ end_other at s offset (bytes ++ more) breaks f other

-- at the end of what can be read
pub end_step : (n : ℕ) (at : Place) (s : Tally) (offset : ℕ) (bytes : List ℕ) → first_fault bytes ≡ Some Short
    → bytes_told (suc n) at s offset bytes false ≡ left_told at s offset bytes
end_step n at s offset bytes is = step_is n at s offset bytes false ∙ ap (front_told (more_of n at false) at s offset bytes false) is

pub broken_step : (n : ℕ) (at : Place) (s : Tally) (offset : ℕ) (bytes : List ℕ) → first_fault bytes ≡ Some Short
    → bytes_told (suc n) at s offset bytes true ≡ unreadable_told at s
broken_step n at s offset bytes is = step_is n at s offset bytes true ∙ ap (front_told (more_of n at true) at s offset bytes true) is

-- bytes that don't start with a packet, whatever follows them
pub bad_step : (at : Place) (s : Tally) (offset : ℕ) (bytes : List ℕ) (f : PacketFault) (came : Step) (before now : Option (List ℕ)) (after : Tally)
    → first_fault bytes ≡ Some f → IsBad at s offset f came before now after → IsStep at s offset bytes came before now after
bad_step at s offset bytes f (step.Packet size) before now after is bad = absurd bad
bad_step at s offset bytes f step.Waits before now after is bad = (is ∙ ap Some bad.0, bad.1, bad.2)
bad_step at s offset bytes f step.Stopped before now after is bad = λ n rest breaks.
    subst (λ (t : Told Tally). IsTold t before now after) (sym (fault_step n at s offset bytes rest breaks f is bad.0)) bad.1
