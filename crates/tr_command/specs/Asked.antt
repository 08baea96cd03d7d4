-- The commands of a script: what each asks for, its arguments, and how their values are read. None is a bad line.
use Rattle.std.specs.Prelude.{ℕ, ℤ, Bool, List, [], ◌∷◌, ◌++◌, Option, codes, find, map, option_and_then, pos}
use Prim.Native.String.{String}
use Rattle.std.specs.Str.{bytes_eq}
use Rattle.clap.specs.Words.{Row, Rule, Text, first_of}
use Rattle.tr_terms.specs.declared.limits.TheConstants.{LAST_MOMENT, MOST_FILL}
use Rattle.tr_terms.specs.declared.mode.Mode.{Mode}
use Rattle.tr_command.specs.CommandLine.{flag, option, place, rule}
use Rattle.tr_command.specs.Reading.{and_last, and_then, has_flag, mode_given, most_u32, most_u64, number_given, number_if_given, number_or_0, offset_given, session_given, text_or_empty}
use Rattle.tr_command.specs.declared.commands.CommandRow.{CommandRow}
use Rattle.tr_command.specs.declared.commands.Reader.{Reader}
use Rattle.tr_command.specs.declared.commands.Reader.TheVariants as reader
use Rattle.tr_command.specs.declared.requests.Request.{Request}
use Rattle.tr_command.specs.declared.requests.Request.TheVariants as request

-- a request with its texts in place of references to them
pub data Asked : Type 0 where
  Create : (session uuid : Text) (offset : ℤ) (snapshot : Bool) → Asked
  Channel : (session channel : Text) (size count : ℕ) (mode : Mode) → Asked
  Thread : (session channel : Text) → Asked
  Start : (session : Text) (moment : ℕ) → Asked
  Stop : (session : Text) → Asked
  Offer : (session : Text) (stream moment id : ℕ) (text : Text) (fill : ℕ) → Asked
  Consume : (session : Text) (stream : ℕ) → Asked
  Clear : (session : Text) → Asked
  RotateBegin : (session : Text) (moment : ℕ) → Asked
  RotateNext : (session : Text) → Asked
  RotateFinish : (session : Text) → Asked
  Rotate : (session : Text) (moment : ℕ) → Asked
  Snapshot : (session : Text) (moment : ℕ) → Asked
  Fate : (session : Text) (stream serial : ℕ) → Asked
  Schedule : (session : Text) (every size : Option ℕ) → Asked
  Tick : (session : Text) (moment : ℕ) → Asked
  Status : (session : Text) → Asked
  Archives : (session : Text) → Asked
  Release : (session : Text) (archive : ℕ) → Asked

abbrev pub asked_by : Request → Asked
asked_by (request.Create session uuid offset snapshot) = Create session.now uuid.now offset snapshot
asked_by (request.Channel session channel size count mode) = Channel session.now channel.now size count mode
asked_by (request.Thread session channel) = Thread session.now channel.now
asked_by (request.Start session moment) = Start session.now moment
asked_by (request.Stop session) = Stop session.now
asked_by (request.Offer session stream moment id text fill) = Offer session.now stream moment id text.now fill
asked_by (request.Consume session stream) = Consume session.now stream
asked_by (request.Clear session) = Clear session.now
asked_by (request.RotateBegin session moment) = RotateBegin session.now moment
asked_by (request.RotateNext session) = RotateNext session.now
asked_by (request.RotateFinish session) = RotateFinish session.now
asked_by (request.Rotate session moment) = Rotate session.now moment
asked_by (request.Snapshot session moment) = Snapshot session.now moment
asked_by (request.Fate session stream serial) = Fate session.now stream serial
asked_by (request.Schedule session every size) = Schedule session.now every size
asked_by (request.Tick session moment) = Tick session.now moment
asked_by (request.Status session) = Status session.now
asked_by (request.Archives session) = Archives session.now
asked_by (request.Release session archive) = Release session.now archive

-- the moment of a request, 0 if it has none
abbrev pub moment_in : Asked → ℕ
moment_in (Start session moment) = moment
moment_in (Offer session stream moment id text fill) = moment
moment_in (RotateBegin session moment) = moment
moment_in (Rotate session moment) = moment
moment_in (Snapshot session moment) = moment
moment_in (Tick session moment) = moment
moment_in _ = 0

-- the offset of a request, 0 if it has none
abbrev pub offset_in : Asked → ℤ
offset_in (Create session uuid offset snapshot) = offset
offset_in _ = pos 0

-- the session of a command that has no other argument
abbrev pub of_session : (Text → Asked) → List Row → Option Asked
of_session made rows = and_last (session_given rows) made

-- the session and the moment of a command that has no other argument
abbrev pub at_moment : (Text → ℕ → Asked) → List Row → Option Asked
at_moment made rows =
    and_then (session_given rows) (λ session. and_last (number_given (codes "moment") LAST_MOMENT rows) (made session))

-- what the values of a command's arguments ask for
abbrev pub read : Reader → List Row → Option Asked
read reader.Create rows =
    and_then (session_given rows) (λ session.
    and_then (first_of (codes "uuid") rows) (λ uuid.
    and_last (offset_given rows) (λ offset.
    Create session uuid offset (has_flag (codes "snapshot") rows))))
read reader.Channel rows =
    and_then (session_given rows) (λ session.
    and_then (first_of (codes "channel") rows) (λ channel.
    and_then (number_given (codes "size") most_u32 rows) (λ size.
    and_then (number_given (codes "count") most_u32 rows) (λ count.
    and_last (mode_given (codes "mode") rows) (λ mode.
    Channel session channel size count mode)))))
read reader.Thread rows =
    and_then (session_given rows) (λ session.
    and_last (first_of (codes "channel") rows) (λ channel.
    Thread session channel))
read reader.Start rows = at_moment Start rows
read reader.Stop rows = of_session Stop rows
read reader.Offer rows =
    and_then (session_given rows) (λ session.
    and_then (number_given (codes "stream") most_u64 rows) (λ stream.
    and_then (number_given (codes "moment") LAST_MOMENT rows) (λ moment.
    and_then (number_given (codes "id") most_u32 rows) (λ id.
    and_last (number_or_0 (codes "fill") MOST_FILL rows) (λ fill.
    Offer session stream moment id (text_or_empty (codes "text") rows) fill)))))
read reader.Consume rows =
    and_then (session_given rows) (λ session.
    and_last (number_given (codes "stream") most_u64 rows) (λ stream.
    Consume session stream))
read reader.Clear rows = of_session Clear rows
read reader.RotateBegin rows = at_moment RotateBegin rows
read reader.RotateNext rows = of_session RotateNext rows
read reader.RotateFinish rows = of_session RotateFinish rows
read reader.Rotate rows = at_moment Rotate rows
read reader.Snapshot rows = at_moment Snapshot rows
read reader.Schedule rows =
    and_then (session_given rows) (λ session.
    and_then (number_if_given (codes "every") most_u64 rows) (λ every.
    and_last (number_if_given (codes "size") most_u64 rows) (λ size.
    Schedule session every size)))
read reader.Tick rows = at_moment Tick rows
read reader.Fate rows =
    and_then (session_given rows) (λ session.
    and_then (number_given (codes "stream") most_u64 rows) (λ stream.
    and_last (number_given (codes "serial") most_u64 rows) (λ serial.
    Fate session stream serial)))
read reader.Status rows = of_session Status rows
read reader.Archives rows = of_session Archives rows
read reader.Release rows =
    and_then (session_given rows) (λ session.
    and_last (number_given (codes "archive") most_u64 rows) (λ archive.
    Release session archive))

-- a command of a script: its name, its arguments, and what reads their values
pub record Command : Type 0 where
  pub name : Text
  pub rules : List Rule
  pub reader : Reader

-- a command by its texts by their places, its options and its flags
abbrev command : String → (places options flags : List String) → Reader → Command
command name places options flags reader = record {
  name = codes name;
  rules = map (λ id. place (codes id)) places ++ (map (λ id. option (codes id)) options ++ map (λ id. flag (codes id)) flags);
  reader = reader;
}

-- every command
unfoldable pub commands : List Command
commands =
    command "create" ("session" ∷ "uuid" ∷ []) ("east" ∷ "west" ∷ []) ("snapshot" ∷ []) reader.Create
    ∷ command "channel" ("session" ∷ "channel" ∷ "size" ∷ "count" ∷ "mode" ∷ []) [] [] reader.Channel
    ∷ command "thread" ("session" ∷ "channel" ∷ []) [] [] reader.Thread
    ∷ command "start" ("session" ∷ "moment" ∷ []) [] [] reader.Start
    ∷ command "stop" ("session" ∷ []) [] [] reader.Stop
    ∷ command "offer" ("session" ∷ "stream" ∷ "moment" ∷ "id" ∷ []) ("text" ∷ "fill" ∷ []) [] reader.Offer
    ∷ command "consume" ("session" ∷ "stream" ∷ []) [] [] reader.Consume
    ∷ command "clear" ("session" ∷ []) [] [] reader.Clear
    ∷ command "rotate-begin" ("session" ∷ "moment" ∷ []) [] [] reader.RotateBegin
    ∷ command "rotate-next" ("session" ∷ []) [] [] reader.RotateNext
    ∷ command "rotate-finish" ("session" ∷ []) [] [] reader.RotateFinish
    ∷ command "rotate" ("session" ∷ "moment" ∷ []) [] [] reader.Rotate
    ∷ command "snapshot" ("session" ∷ "moment" ∷ []) [] [] reader.Snapshot
    ∷ command "schedule" ("session" ∷ []) ("every" ∷ "size" ∷ []) [] reader.Schedule
    ∷ command "tick" ("session" ∷ "moment" ∷ []) [] [] reader.Tick
    ∷ command "fate" ("session" ∷ "stream" ∷ "serial" ∷ []) [] [] reader.Fate
    ∷ command "status" ("session" ∷ []) [] [] reader.Status
    ∷ command "archives" ("session" ∷ []) [] [] reader.Archives
    ∷ command "release" ("session" ∷ "archive" ∷ []) [] [] reader.Release
    ∷ []

-- the command of this name
abbrev pub command_named : Text → Option Command
command_named name = find (λ c. bytes_eq c.name name) commands

-- the command of a row of the program's table
abbrev pub command_in : CommandRow → Command
command_in row = record { name = row.name.now; rules = map rule row.arguments.now; reader = row.reader }

-- what the command of this name asks for
abbrev pub read_command : Text → List Row → Option Asked
read_command name rows = option_and_then (λ c. read c.reader rows) (command_named name)
