-- What is written for an outcome, and what a run of the program is.
use Rattle.std.specs.Prelude.{◌≡◌, ◌⊎◌, ◌<◌, ◌≤◌, ℕ, List, [], ◌++◌, Option, Result, Ok, Err, length, slice_range, string_bytes}
use Rattle.std.specs.declared.alloc.AllocError.{AllocError}
use Rattle.std.specs.Io.KnownBytes.{Appends, Consumes, IsAtEnd}
use Rattle.serde_json.specs.Data.{null}
use Rattle.rast_frames.specs.Fronts.{Fronts}
use Rattle.rast_frames.specs.Reading.{Waiting, come, frame, passed, taken}
use Rattle.rast_frames.specs.declared.front.Front.{Front}
use Rattle.rast_frames.specs.declared.front.Front.TheVariants.{Part, Message, TooLong, Wrong, Lost as NoEnd}
use Rattle.rast_messages.specs.declared.reply.Code.TheVariants.{InvalidRequest, ParseError}
use Rattle.rast_messages.specs.declared.reply.TheConstants.{OUT_OF_MEMORY}
use Rattle.rast_server.specs.Answered.{IsAnswer, IsUnanswered, Reports, status_of}
use Rattle.rast_server.specs.declared.run.Next.{Next}
use Rattle.rast_server.specs.declared.run.Next.TheVariants.{Read, Exit, CannotWrite, Lost}
use Rattle.rast_server.specs.declared.limit.TheConstants.{LIMIT}
use Rattle.rast_server.specs.declared.server.Outcome.{Outcome}
use Rattle.rast_server.specs.declared.server.Outcome.TheVariants.{Nothing, Reply, Note, Exit as Ends}
use Rattle.rast_server.specs.declared.server.Server.{Server}
use Rattle.rast_server.specs.declared.server.Stage.TheVariants.{Fresh}

-- a text is written with its header, or the output refuses a write
pub record Writes (text : List ℕ) (old new : Option (List ℕ)) (next : Next) : Type 0 where
  pub ways : (next ≡ Read) ⊎ (next ≡ CannotWrite)
  pub written : next ≡ Read → Appends old new (frame text)

-- what is sent for an outcome
abbrev pub Sends : Result Outcome AllocError → Option (List ℕ) → Option (List ℕ) → Next → Type 0
Sends (Ok Nothing) old new next = (next ≡ Read) × (new ≡ old)
Sends (Ok (Reply text)) old new next = Writes (string_bytes text) old new next
Sends (Ok (Note text)) old new next = Writes (string_bytes text) old new next
Sends (Ok (Ends status)) old new next = (next ≡ Exit status) × (new ≡ old)
Sends (Err e) old new next = Writes OUT_OF_MEMORY.now old new next

-- what the front of the input is answered, and the server after it
abbrev pub FrontAnswers : Server → List ℕ → Front → Outcome → Server → Type 0
FrontAnswers old bytes Part outcome new = (outcome ≡ Nothing) × (new ≡ old)
FrontAnswers old bytes (Message start end) outcome new = IsAnswer old (slice_range bytes start end) outcome new
FrontAnswers old bytes (TooLong start long) outcome new = Reports InvalidRequest null outcome × (new ≡ old)
FrontAnswers old bytes (Wrong fault end) outcome new = Reports ParseError null outcome × (new ≡ old)
FrontAnswers old bytes NoEnd outcome new = Reports ParseError null outcome × (new ≡ old)

-- what the front of the input leaves for which there is no answer
abbrev pub FrontLeaves : Server → List ℕ → Front → Server → Type 0
FrontLeaves old bytes Part new = new ≡ old
FrontLeaves old bytes (Message start end) new = IsUnanswered old (slice_range bytes start end) new
FrontLeaves old bytes (TooLong start long) new = new ≡ old
FrontLeaves old bytes (Wrong fault end) new = new ≡ old
FrontLeaves old bytes NoEnd new = new ≡ old

-- the bytes that are written for an outcome
abbrev pub sent : Outcome → List ℕ
sent Nothing = []
sent (Reply text) = frame (string_bytes text)
sent (Note text) = frame (string_bytes text)
sent (Ends status) = []

-- A run: the input that has come makes the output, leaves the server as it is and these bytes waiting. A message for
-- which there was no memory, not even for its reply, is reported in a text that takes none.
pub data Serves : List ℕ → List ℕ → Server → Waiting → Type 0 where
  begins : (s : Server) → s.stage ≡ Fresh → s.documents.entries ≡ [] → Serves [] [] s record { bytes = []; skip = 0 }
  comes : (i o : List ℕ) (s : Server) (w : Waiting) (piece : List ℕ) → Serves i o s w → Serves (i ++ piece) o s (come w piece)
  answers : (i o : List ℕ) (s t : Server) (w : Waiting) (f : Front) (outcome : Outcome) → Serves i o s w → Fronts LIMIT w.bytes f
      → FrontAnswers s w.bytes f outcome t → Serves i (o ++ sent outcome) t (passed w (taken f))
  fails : (i o : List ℕ) (s t : Server) (w : Waiting) (f : Front) → Serves i o s w → Fronts LIMIT w.bytes f
      → FrontLeaves s w.bytes f t → Serves i (o ++ frame OUT_OF_MEMORY.now) t (passed w (taken f))
  leaves_out : (i o : List ℕ) (s : Server) (w : Waiting) (f : Front) → Serves i o s w → Fronts 0 w.bytes f
      → Serves i (o ++ frame OUT_OF_MEMORY.now) s (passed w (taken f))

-- what was written since some time is the output of a run over this input
pub record IsServed (start now : Option (List ℕ)) (input : List ℕ) (server : Server) (w : Waiting) : Type 0 where
  pub output : List ℕ
  pub written : Appends start now output
  pub serves : Serves input output server w

-- a run that a message ends: the message at the front of what waits, and its status
pub record IsExited (start now : Option (List ℕ)) (input : List ℕ) (w : Waiting) (status : ℕ) : Type 0 where
  pub before : Server
  pub after : Server
  pub front : Front
  pub served : IsServed start now input before w
  pub fronts : Fronts LIMIT w.bytes front
  pub exits : FrontAnswers before w.bytes front (Ends status) after
  pub small : status ≤ 1

-- what is so after a step of a run, by how it goes on
abbrev pub GoesOn : Next → Option (List ℕ) → Option (List ℕ) → List ℕ → Server → Waiting → Type 0
GoesOn Read start now input s w = IsServed start now input s w
GoesOn (Exit status) start now input s w = IsExited start now input w status
GoesOn CannotWrite start now input s w = Unit {0}
GoesOn Lost start now input s w = Unit {0}

-- A run that ends well: by a message, or with the input, of which nothing waits.
pub record IsRun (start now left rest : Option (List ℕ)) (status : ℕ) : Type 0 where
  pub input : List ℕ
  pub server : Server
  pub w : Waiting
  pub read : Consumes left rest input
  pub ends : IsExited start now input w status
      ⊎ (IsServed start now input server w × IsAtEnd rest × (w ≡ record { bytes = []; skip = 0 }) × (status ≡ status_of server.stage))

-- a run that goes on
pub record IsRunning (start now left rest : Option (List ℕ)) (server : Server) (w : Waiting) : Type 0 where
  pub input : List ℕ
  pub read : Consumes left rest input
  pub served : IsServed start now input server w

-- a line was written
pub record IsReported (old new : Option (List ℕ)) : Type 0 where
  pub line : List ℕ
  pub some : 0 < length line
  pub written : Appends old new line
