-- The threads that had a stream's producer, by the records in which they say so.
use Rattle.std.specs.Prelude.{ℕ, ◌+◌, ◌-◌, ◌==◌, nat_eq, List, [], ◌∷◌, ◌++◌, codes, length, take, Option, Some, None, if◌then◌else◌}
use Rattle.std.specs.Fmt.{decimal}
use Rattle.tr_chunk.specs.Audit.{capped_count}
use Rattle.tr_picture.specs.Escape.{escaped}
use Rattle.tr_record.specs.Records.{Entry}

-- the first thread's name, as far as it is shown, and how many said theirs
pub record Threads : Type 0 where
  pub first : List ℕ
  pub count : ℕ

abbrev pub threads : List ℕ → ℕ → Threads
threads first count = record { first = first; count = count }

abbrev pub no_threads : Threads
no_threads = threads [] 0

-- what bytes have before their first zero
abbrev pub until_zero : List ℕ → List ℕ
until_zero [] = []
until_zero (b ∷ bytes) = if b == 0 then [] else b ∷ until_zero bytes

-- the name in a payload that is a text, its zero and four bytes more
abbrev pub name_in : List ℕ → Option (List ℕ)
name_in payload = if length payload == length (until_zero payload) + 5 then Some (until_zero payload) else None

-- the name that a record says, if it is a thread_begin by its id
abbrev pub thread_of : Entry → Option (List ℕ)
thread_of e = if e.id == 4294967293 then name_in e.payload else None

abbrev pub with_name : Threads → List ℕ → Threads
with_name t name = threads (if nat_eq t.count 0 then take 64 name else t.first) (capped_count (t.count + 1))

abbrev pub with_thread : Threads → Option (List ℕ) → Threads
with_thread t None = t
with_thread t (Some name) = with_name t name

-- after records
abbrev pub threads_after : Threads → List Entry → Threads
threads_after t [] = t
threads_after t (e ∷ es) = threads_after (with_thread t (thread_of e)) es

-- how many there are beside the first
abbrev pub others_text : ℕ → List ℕ
others_text count = if nat_eq count 1 then [] else codes " +" ++ decimal (count - 1)

-- the first one's name, and how many more there are
abbrev pub threads_text : Threads → List ℕ
threads_text t = if nat_eq t.count 0 then [] else codes " " ++ (escaped t.first ++ others_text t.count)
