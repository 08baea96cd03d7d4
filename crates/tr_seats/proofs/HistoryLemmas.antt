-- One history of all that was done to a stream, from the seats that are joined in one.
use Rattle.std.proofs.Common.{◌≡◌, ◌≢◌, ◌∙◌, ◌+◌, ◌<◌, ◌≤◌, ℕ, zero, suc, Bool, true, false, List, [], ◌∷◌, ◌++◌, ap, arith, cond, eq-eqb, eqb, get_or, length, map, nat_lt, refl, subst, sym, ⊎_elim}
use Rattle.std.specs.Prelude.{All, count_by, ◌==◌}
use Rattle.std.specs.List.{AllByRecursion, AllPairs, Contains}
use Rattle.std.proofs.lemmas.Bool.Decides.{eqb_tells, nat_tests}
use Rattle.std.proofs.lemmas.List.{get_or-map, length-append, length-map, map-append}
use Rattle.std.proofs.lemmas.List.Elements.{All-cons, All-nil}
use Rattle.std.proofs.lemmas.List.Kept.{AllPairs-cons}
use Rattle.std.proofs.lemmas.List.Sums.{sum_by-cons}
use Rattle.atomic_table.specs.Seated.{TableId}
use Rattle.tr_accounts.proofs.Lists.{all-back, all-both, all-front, all-more}
use Rattle.tr_accounts.proofs.SeatLemmas.{offers-theirs, operations-theirs, takes-all}
use Rattle.tr_accounts.specs.Accounts.{IsAccounted}
use Rattle.tr_accounts.specs.Seats.{desk_seat, drainer_parts, producer_seat, take_lines}
use Rattle.tr_accounts.specs.StreamSteps.{taken_in}
use Rattle.tr_accounts.specs.declared.step.StreamStep.{StreamStep}
use Rattle.tr_journal.specs.Journals.{IsSeatOf, JournalState, SeatState, parts_of, seat_with}
use Rattle.tr_journal.specs.Views.{AreApart, ArePartsOf, IsPartOf, all_done, done_by}
use Rattle.tr_journal.specs.Whole.{numbers_of}
use Rattle.tr_journal.specs.declared.rule.Line.{Line}
use Rattle.tr_journal.specs.declared.rule.Part.{Part}
use Rattle.tr_operations.specs.Operations.{IsOperatorOf}
use Rattle.tr_seats.specs.Accounts.{AreTakeSeats, IsKeptAccount, IsSeatAt, taken_by}
use Rattle.tr_seats.specs.Books.{Books, books_at}
use Rattle.tr_seats.specs.Drainers.{DrainerState, taken_at}
use Rattle.tr_seats.specs.Histories.{AreDeskWith, IsDeskWith, IsHistoryOf, operations_in, takes_joined, takes_of}
use Rattle.tr_seats.specs.Operators.{HasItsOwn, HaveDone, OperatorState}
use Rattle.tr_seats.specs.Settling.{AreAllMade, HasOperated, HaveHistories, HaveOneHistory, HaveOperated, IsOneEach, WasOperated, streams_of}
use Rattle.tr_seats.specs.Slots.{ProducerState, SlotState, producer_state, slot_state}
use Rattle.tr_session_book.specs.Book.{SessionBookState}
use Rattle.tr_stream.specs.State.{StreamState}
use Rattle.tr_stream.specs.declared.answers.Taken.{Taken}

-- ---- the parts that are joined

-- the parts of all drainers, without the producer's after them
drainers-alone : (ds : List (Part StreamStep)) (p : Part StreamStep) → AllByRecursion (λ (d : Part StreamStep). desk_seat < d.who) ds
    → p.who ≡ producer_seat → drainer_parts (ds ++ p ∷ []) ≡ ds
drainers-alone [] p theirs is =
    let no : nat_lt desk_seat p.who ≡ false = grind (arith, nat_tests, is) in
    ap (λ b. cond b (p ∷ []) []) no
drainers-alone (d ∷ ds) p theirs is =
    let yes : nat_lt desk_seat d.who ≡ true = grind (arith, nat_tests, theirs.0) in
    ap (λ b. cond b (d ∷ drainer_parts (ds ++ p ∷ [])) (drainer_parts (ds ++ p ∷ []))) yes
    ∙ ap (λ ps. d ∷ ps) (drainers-alone ds p theirs.1 is)

numbers-front : (n : ℕ) (ds : List (Part StreamStep)) → AllByRecursion (λ (d : Part StreamStep). n ≢ d.who) ds → All (λ m. n ≢ m) (numbers_of ds)
numbers-front n [] h = All-nil (λ m. n ≢ m)
numbers-front n (d ∷ ds) h = All-cons (λ m. n ≢ m) d.who (numbers_of ds) h.0 (numbers-front n ds h.1)

numbers-apart : (ds ps : List (Part StreamStep)) → AreApart (ds ++ ps) → AllPairs (λ a b. a ≢ b) (numbers_of ds)
numbers-apart [] ps h = λ i j d lt within. absurd (omega (arith, within))
numbers-apart (d ∷ ds) ps h =
    AllPairs-cons (λ a b. a ≢ b) d.who (numbers_of ds) (numbers-front d.who ds (all-front (λ (q : Part StreamStep). d.who ≢ q.who) ds ps h.0))
    (numbers-apart ds ps h.1)

numbers-theirs : (ds : List (Part StreamStep)) → AllByRecursion (λ (d : Part StreamStep). desk_seat < d.who) ds
    → AllByRecursion (λ who. desk_seat < who) (numbers_of ds)
numbers-theirs [] h = tt
numbers-theirs (d ∷ ds) h = (h.0, numbers-theirs ds h.1)

numbers-taken : (made : ℕ) (lines : List (Line StreamStep)) (ds : List (Part StreamStep)) → AllByRecursion (IsPartOf made lines) ds
    → map (λ (d : Part StreamStep). taken_in d.own) ds ≡ map (λ who. taken_in (done_by who lines)) (numbers_of ds)
numbers-taken made lines [] h = refl
numbers-taken made lines (d ∷ ds) h = λ k. taken_in (h.0.1 k) ∷ numbers-taken made lines ds h.1 k

abbrev part_of : SeatState StreamStep → Part StreamStep
part_of seat = record { who = seat.who; own = seat.own }

-- the desk's seat, with all drainers' seats and the producer's
module _ (table : TableId) (s : StreamState) (made : ℕ) (account : JournalState StreamStep) (desk producer now : SeatState StreamStep)
    (kept : IsKeptAccount table s made account) (with : IsDeskWith table desk) (mine : producer.who ≡ producer_seat)
    (alone : producer.joined ≡ []) (all : length desk.joined ≡ made) (is : now ≡ seat_with producer desk) (own : IsSeatOf account now) where
  abbrev parts : List (Part StreamStep)
  parts = part_of desk ∷ (desk.joined ++ part_of producer ∷ [])

  are : ArePartsOf account.made account.lines parts
  are =
      subst (ArePartsOf account.made account.lines)
      (ap parts_of is ∙ ap (λ (l : List (Part StreamStep)). part_of desk ∷ (desk.joined ++ part_of producer ∷ l)) alone) own

  many : length parts ≡ account.made
  many = omega (arith, length-append desk.joined (part_of producer ∷ []), all, kept.made_is)

  drainers : drainer_parts parts ≡ desk.joined
  drainers =
      let no : nat_lt desk_seat desk.who ≡ false = grind (arith, nat_tests, with.desk) in
      ap (λ b. cond b (part_of desk ∷ drainer_parts (desk.joined ++ part_of producer ∷ [])) (drainer_parts (desk.joined ++ part_of producer ∷ []))) no
      ∙ drainers-alone desk.joined (part_of producer) with.drainers mine

  pub history-of : IsHistoryOf producer.own (takes_joined desk) desk.own s
  history-of =
      let lines = account.lines in
      let last = (all-back (IsPartOf account.made lines) desk.joined (part_of producer ∷ []) are.each.1).0 in
      let mine_is : desk.own ≡ done_by desk_seat lines = are.each.0.1 ∙ ap (λ who. done_by who lines) with.desk in
      let did : producer.own ≡ done_by producer_seat lines = last.1 ∙ ap (λ who. done_by who lines) mine in
      record {
        lines = lines;
        journal = kept.lines_are;
        offers = offers-theirs lines kept.lines_are.theirs ∙ sym did;
        operations = operations-theirs lines kept.lines_are.theirs ∙ sym mine_is;
        numbers = numbers_of desk.joined;
        theirs = numbers-theirs desk.joined with.drainers;
        apart = numbers-apart desk.joined (part_of producer ∷ []) are.apart.1;
        taken = numbers-taken account.made lines desk.joined
            (all-front (IsPartOf account.made lines) desk.joined (part_of producer ∷ []) are.each.1);
        none_missing = subst (λ (l : List (Part StreamStep)). AllByRecursion (λ (x : Line StreamStep). Contains (numbers_of l) x.who) (take_lines lines))
            drainers (takes-all account.made lines parts kept.lines_are.theirs are many).each;
      }

-- ---- the desk's seats, and the drainers' that are joined to them

pub desk-alone : (table : TableId) (seat : SeatState StreamStep) → IsSeatAt table desk_seat seat
    → IsDeskWith table seat × (takes_joined seat ≡ [])
desk-alone table seat is = (
  record {
    table_is = is.0;
    desk = is.1;
    drainers = subst (AllByRecursion (λ (p : Part StreamStep). desk_seat < p.who)) (sym is.2) tt;
  },
  ap (map (λ (p : Part StreamStep). taken_in p.own)) is.2,
)

-- one drainer's seats more
pub desk-more : (books : List Books) (drainers : List DrainerState) (x : DrainerState) (old new theirs : List (SeatState StreamStep))
    → AreDeskWith books drainers old → AreTakeSeats (length books) books theirs → x.taken ≡ taken_by theirs → length new ≡ length old
    → ((i : ℕ) (d e : SeatState StreamStep) → i < length books → get_or new i d ≡ seat_with (get_or theirs i e) (get_or old i d))
    → AreDeskWith books (drainers ++ x ∷ []) new
desk-more books drainers x old new theirs was are took long joined = record {
  many = long ∙ was.many;
  each = λ i d lt.
      let mine = get_or old i d in
      let other = get_or theirs i d in
      let before = was.each i d lt in
      let seat = are.each i d lt in
      subst (IsDeskWith (books_at books i).journal) (sym (joined i d d lt)) (record {
        table_is = before.table_is;
        desk = before.desk;
        drainers = all-both (λ (p : Part StreamStep). desk_seat < p.who) mine.joined (parts_of other) before.drainers
            (seat.1, subst (AllByRecursion (λ (p : Part StreamStep). desk_seat < p.who)) (sym seat.2) tt);
      });
  taken = λ i d lt.
      let mine = get_or old i d in
      let other = get_or theirs i d in
      let seat = are.each i d lt in
      let took_it : (p : Part StreamStep) → List Taken = λ p. taken_in p.own in
      let one : map took_it (parts_of other) ≡ taken_in other.own ∷ [] = ap (λ (l : List (Part StreamStep)). taken_in other.own ∷ map took_it l) seat.2 in
      let there : i < length theirs = omega (arith, lt, are.many) in
      let last : taken_at x i ≡ taken_in other.own =
      ap (λ (l : List (List Taken)). get_or l i []) took ∙ get_or-map (λ (s : SeatState StreamStep). taken_in s.own) theirs i d [] there in
      ap takes_joined (joined i d d lt) ∙ map-append took_it mine.joined (parts_of other)
      ∙ (λ k. was.taken i d lt k ++ one k) ∙ ap (λ (l : List Taken). takes_of drainers i ++ l ∷ []) (sym last)
      ∙ sym (map-append (λ (q : DrainerState). taken_at q i) drainers (x ∷ []));
}

-- so many are joined as drainers were made
pub desk-whole : (books : List Books) (drainers : List DrainerState) (seats : List (SeatState StreamStep)) (slots : List SlotState)
    → AreDeskWith books drainers seats → AreAllMade (length drainers) slots → length slots ≡ length books
    → (i : ℕ) (d : SeatState StreamStep) (s : SlotState) → i < length books → length (get_or seats i d).joined ≡ (get_or slots i s).made
desk-whole books drainers seats slots are made long i d s lt =
    let mine = get_or seats i d in
    sym (length-map mine.joined (λ (p : Part StreamStep). taken_in p.own)) ∙ ap length (are.taken i d lt)
    ∙ length-map drainers (λ (q : DrainerState). taken_at q i) ∙ sym (made i s (omega (arith, lt, long)))

-- ---- one producer for each stream

abbrev counted : ℕ → List ProducerState → ℕ
counted i ps = count_by (λ (p : ProducerState). p.number == i) ps

abbrev once : Bool → ℕ
once b = cond b 1 0

counted-cons : (i : ℕ) (p : ProducerState) (ps : List ProducerState) → counted i (p ∷ ps) ≡ once (eqb p.number i) + counted i ps
counted-cons i p ps = sum_by-cons (λ (q : ProducerState). cond (q.number == i) 1 0) p ps

counted-some : (i : ℕ) (ps : List ProducerState) (k : ℕ) (d : ProducerState) → k < length ps → (get_or ps k d).number ≡ i → 1 ≤ counted i ps
counted-some i [] k d lt is = absurd (omega arith)
counted-some i (p ∷ ps) zero d lt is =
    let one : once (eqb p.number i) ≡ 1 = ap once (eq-eqb p.number i is) in
    omega (arith, counted-cons i p ps, one)
counted-some i (p ∷ ps) (suc k) d lt is = omega (arith, counted-cons i p ps, counted-some i ps k d (omega arith) is)

counted-two : (i : ℕ) (ps : List ProducerState) (j k : ℕ) (c d : ProducerState) → j < k → k < length ps → (get_or ps j c).number ≡ i
    → (get_or ps k d).number ≡ i → 2 ≤ counted i ps
counted-two i [] j k c d lt within one two = absurd (omega arith)
counted-two i (p ∷ ps) j zero c d lt within one two = absurd (omega arith)
counted-two i (p ∷ ps) zero (suc k) c d lt within one two =
    let here : once (eqb p.number i) ≡ 1 = ap once (eq-eqb p.number i one) in
    omega (arith, counted-cons i p ps, here, counted-some i ps k d (omega arith) two)
counted-two i (p ∷ ps) (suc j) (suc k) c d lt within one two =
    omega (arith, counted-cons i p ps, counted-two i ps j k c d (omega arith) (omega arith) one two)

-- no two producers are of one stream
pub producers-apart : (n : ℕ) (ps : List ProducerState) → IsOneEach n ps → (j k : ℕ) (c d : ProducerState) → j < k → k < length ps
    → (get_or ps k d).number < n → (get_or ps j c).number ≢ (get_or ps k d).number
producers-apart n ps each j k c d lt within there same =
    let i = (get_or ps k d).number in
    omega (arith, each i there, counted-two i ps j k c d lt within same refl)

-- what the desk's seats noted is what they had noted before the drainers' were joined
pub operations-kept : (n : ℕ) (old new : List (SeatState StreamStep)) → length old ≡ n
    → ((i : ℕ) (d : SeatState StreamStep) → i < n → (get_or new i d).own ≡ (get_or old i d).own)
    → (i : ℕ) (d : SeatState StreamStep) → i < n → (get_or new i d).own ≡ get_or (operations_in old) i []
operations-kept n old new long kept i d lt =
    kept i d lt ∙ sym (get_or-map (λ (s : SeatState StreamStep). s.own) old i d [] (omega (arith, lt, long)))

-- each history, out of the slots
pub their-histories : (n : ℕ) (books : List Books) (producers : List ProducerState) (drainers : List DrainerState)
    (operations : List (List StreamStep)) (seats : List (SeatState StreamStep)) (slots : List SlotState)
    → length slots ≡ n → length books ≡ n → AreDeskWith books drainers seats → (d : SeatState StreamStep)
    → ((i : ℕ) (d : SeatState StreamStep) → i < n → (get_or seats i d).own ≡ get_or operations i [])
    → ((k : ℕ) (p : ProducerState) → k < length producers → (get_or producers k p).number < n)
    → ((k : ℕ) (p : ProducerState) (d : SeatState StreamStep) (s : SlotState) → k < length producers
    → IsHistoryOf (get_or producers k p).steps (takes_joined (get_or seats (get_or producers k p).number d))
    (get_or seats (get_or producers k p).number d).own (get_or slots (get_or producers k p).number s).stream)
    → HaveHistories producers drainers operations (streams_of slots)
their-histories n books producers drainers operations seats slots long wide are d did there own k p t lt =
    let s = slot_state 0 t 0 in
    let q = get_or producers k p in
    let within = there k p lt in
    let at = get_or-map (λ (x : SlotState). x.stream) slots q.number s t (omega (arith, within, long)) in
    subst (λ (x : List (List Taken) × List StreamStep × StreamState). IsHistoryOf q.steps x.0 x.1 x.2)
    (λ j. (are.taken q.number d (omega (arith, within, wide)) j, did q.number d within j, sym at j)) (own k p d s lt)

-- without operators
pub nobodys : (planned book : SessionBookState) (operators : List OperatorState) (all : Bool) (producers : List ProducerState)
    (drainers : List DrainerState) (streams : List StreamState) → HaveOneHistory planned operators all producers drainers book streams
    → HaveOneHistory planned [] false producers drainers book streams
nobodys planned book operators all producers drainers streams h = record {
  operations = h.operations;
  many = h.many;
  done = record { lines = h.done.lines; leads = h.done.leads; own = tt; none_missing = λ no. absurd cc; did = h.done.did };
  histories = h.histories;
}

-- ---- each operator's part of it

pub each-operator : (planned book : SessionBookState) (operators : List OperatorState) (all : Bool) (operations : List (List StreamStep))
    → HaveDone planned operators all book operations → AllByRecursion (λ (o : OperatorState). IsOperatorOf planned o.steps book) operators
each-operator planned book operators all operations h =
    all-more (HasItsOwn h.lines) (λ (o : OperatorState). IsOperatorOf planned o.steps book)
    (λ o is. record { lines = h.lines; leads = h.leads; who = o.number; own = is }) operators h.own

-- what was done to each stream but offers and takes
pub each-operated : (planned book : SessionBookState) (operators : List OperatorState) (all : Bool) (streams : List StreamState)
    → HaveOperated planned operators all book streams
    → AllByRecursion (λ (o : OperatorState). HasOperated planned o.steps book streams) operators
each-operated planned book operators all streams h =
    all-more (HasItsOwn h.done.lines) (λ (o : OperatorState). HasOperated planned o.steps book streams)
    (λ o is. record { lines = h.done.lines; leads = h.done.leads; who = o.number; own = is; streams_are = was }) operators h.done.own
  where
    was : (i : ℕ) (t : StreamState) → i < length streams → WasOperated i (all_done h.done.lines) planned book (get_or streams i t)
    was i t lt = record { operations = get_or h.operations i []; did = h.done.did i (omega (arith, lt, h.many)); are = h.are i t lt }

counted-found : (i : ℕ) (ps : List ProducerState) → 1 ≤ counted i ps
    → (k : ℕ) × (k < length ps) × ((d : ProducerState) → (get_or ps k d).number ≡ i)
counted-found i [] is = absurd (omega (arith, is))
counted-found i (p ∷ ps) is =
    ⊎_elim
    (λ (t : (eqb p.number i ≡ true) × (p.number ≡ i)). (0, omega arith, λ d. t.1))
    (λ (t : (eqb p.number i ≡ false) × (p.number ≢ i)).
    let none : once (eqb p.number i) ≡ 0 = ap once t.0 in
    let rest = counted-found i ps (omega (arith, is, counted-cons i p ps, none)) in
    (suc rest.0, omega (arith, rest.1), λ d. rest.2 d))
    (eqb_tells p.number i)

-- of a session that was settled
pub settled-operated : (planned book : SessionBookState) (operators : List OperatorState) (all : Bool) (producers : List ProducerState)
    (drainers : List DrainerState) (streams : List StreamState) → HaveOneHistory planned operators all producers drainers book streams
    → IsOneEach (length streams) producers → AllByRecursion (λ (o : OperatorState). HasOperated planned o.steps book streams) operators
settled-operated planned book operators all producers drainers streams h one_each = each-operated planned book operators all streams (record {
  operations = h.operations;
  many = h.many;
  done = h.done;
  are = λ i t lt.
      let p : ProducerState = producer_state 0 0 0 0 0 0 [] in
      let found = counted-found i producers (omega (arith, one_each i lt)) in
      let history = h.histories found.0 p t found.1 in
      let here = found.2 p in
      record {
        all = all_done history.lines;
        accounted = subst (λ n. IsAccounted (all_done history.lines) (get_or streams n t)) here history.journal.accounted;
        operations = history.operations ∙ ap (λ n. get_or h.operations n []) here;
      };
})
