-- A run, step by step.
use Rattle.std.proofs.Common.{◌≡◌, ◌≤◌, ◌++◌, ℕ, IfOk, OnErr, List, [], Option, Some, None, Result, Ok, Err, inl, inr, refl, sym, ap, ◌∙◌, subst, append_assoc, append-nil, string_bytes, take, arith, slice_range}
use Rattle.std.specs.Io.KnownBytes.{Appends, Consumes, IsAtEnd, Keeps}
use Rattle.std.specs.declared.alloc.AllocError.{AllocError}
use Rattle.rast_frames.specs.Fronts.{Fronts}
use Rattle.rast_frames.specs.Reading.{Waiting, come, frame, passed, taken}
use Rattle.rast_frames.specs.declared.front.Front.{Front}
use Rattle.rast_frames.specs.declared.front.Front.TheVariants.{Part, Message, TooLong, Wrong, Lost as NoEnd}
use Rattle.rast_messages.specs.declared.reply.TheConstants.{OUT_OF_MEMORY}
use Rattle.rast_server.specs.Answered.{IsAnswer, status_of}
use Rattle.rast_server.specs.Answered.IsAnswer.{request, notification, response, no_message, no_json, no_memory}
use Rattle.rast_server.specs.Ran.{FrontAnswers, FrontLeaves, GoesOn, IsExited, IsReported, IsRun, IsRunning, IsServed, Sends, Serves, Writes, sent}
use Rattle.rast_server.specs.Ran.Serves.{answers, begins, comes, fails, leaves_out}
use Rattle.rast_server.specs.declared.run.Next.{Next}
use Rattle.rast_server.specs.declared.run.Next.TheVariants.{Read, Exit, CannotWrite, Lost}
use Rattle.rast_server.specs.declared.limit.TheConstants.{LIMIT}
use Rattle.rast_server.specs.declared.server.Outcome.{Outcome}
use Rattle.rast_server.specs.declared.server.Outcome.TheVariants.{Nothing, Reply, Note, Exit as Ends}
use Rattle.rast_server.specs.declared.server.Server.{Server}
use Rattle.rast_server.specs.declared.server.Stage.{Stage}
use Rattle.rast_server.specs.declared.server.Stage.TheVariants.{Fresh, Ready, ShutDown}

appended : (a b c : Option (List ℕ)) (x y : List ℕ) → Appends a b x → Appends b c y → Appends a c (x ++ y)
appended None b c x y p q = tt
appended (Some l) None c x y p q = absurd p
appended (Some l) (Some m) None x y p q = q
appended (Some l) (Some m) (Some n) x y p q = q ∙ (ap (λ (k : List ℕ). k ++ y) p ∙ append_assoc l x y)

none_appended : (a : Option (List ℕ)) → Appends a a []
none_appended None = tt
none_appended (Some l) = sym (append-nil l)

pub none_consumed : (a : Option (List ℕ)) → Consumes a a []
none_consumed None = tt
none_consumed (Some l) = refl

pub consumed : (a b c : Option (List ℕ)) (x y : List ℕ) → Consumes a b x → Consumes b c y → Consumes a c (x ++ y)
consumed None b c x y p q = tt
consumed (Some l) None c x y p q = absurd p
consumed (Some l) (Some m) None x y p q = q
consumed (Some l) (Some m) (Some n) x y p q = p ∙ (ap (λ (k : List ℕ). x ++ k) q ∙ sym (append_assoc x y n))

-- bytes that were kept before others were read
pub kept_consumed : (a b c : Option (List ℕ)) (x : List ℕ) → Keeps a b → Consumes b c x → Consumes a c x
kept_consumed None b c x p q = tt
kept_consumed (Some l) None c x p q = absurd p
kept_consumed (Some l) (Some m) None x p q = q
kept_consumed (Some l) (Some m) (Some n) x p q = sym p ∙ q

-- known bytes that are kept twice
pub kept : (a b c : Option (List ℕ)) → Keeps a b → Keeps b c → Keeps a c
kept None b c p q = tt
kept (Some l) None c p q = absurd p
kept (Some l) (Some m) None p q = q
kept (Some l) (Some m) (Some n) p q = q ∙ p

pub kept_same : (a : Option (List ℕ)) → Keeps a a
kept_same None = tt
kept_same (Some l) = refl

-- a run begins
pub begun : (start : Option (List ℕ)) (s : Server) (w : Waiting) → s.stage ≡ Fresh → s.documents.entries ≡ [] → w ≡ record { bytes = []; skip = 0 }
    → IsServed start start [] s w
begun start s w p q e = record {
  output = [];
  written = none_appended start;
  serves = subst (λ (v : Waiting). Serves [] [] s v) (sym e) (begins s p q);
}

-- a piece comes
pub came : (start now : Option (List ℕ)) (i piece : List ℕ) (s : Server) (w v : Waiting) → v ≡ come w piece → IsServed start now i s w → IsServed start now (i ++ piece) s v
came start now i piece s w v e h = record {
  output = h.output;
  written = h.written;
  serves = subst (λ (u : Waiting). Serves (i ++ piece) h.output s u) (sym e) (comes i h.output s w piece h.serves);
}

-- the front is answered
answered : (start now next : Option (List ℕ)) (i : List ℕ) (s t : Server) (w v : Waiting) (f : Front) (o : Outcome) → Fronts LIMIT w.bytes f
    → FrontAnswers s w.bytes f o t → Appends now next (sent o) → v ≡ passed w (taken f) → IsServed start now i s w → IsServed start next i t v
answered start now next i s t w v f o p q r k h = record {
  output = h.output ++ sent o;
  written = appended start now next h.output (sent o) h.written r;
  serves = subst (λ (x : Waiting). Serves i (h.output ++ sent o) t x) (sym k) (answers i h.output s t w f o h.serves p q);
}

-- the front is answered, and the run goes on
pub went_on : (start now next : Option (List ℕ)) (i : List ℕ) (s t : Server) (w v : Waiting) (f : Front) (r : Result Outcome AllocError) (n : Next) → Fronts LIMIT w.bytes f
    → IfOk r (λ o. FrontAnswers s w.bytes f o t) → OnErr r (FrontLeaves s w.bytes f t) → Sends r now next n → n ≡ Read → v ≡ passed w (taken f)
    → IsServed start now i s w → IsServed start next i t v
went_on start now next i s t w v f (Ok Nothing) n p q l r e k h =
    answered start now next i s t w v f Nothing p q (subst (λ (x : Option (List ℕ)). Appends now x []) (sym r.1) (none_appended now)) k h
went_on start now next i s t w v f (Ok (Reply text)) n p q l r e k h = answered start now next i s t w v f (Reply text) p q (r.written e) k h
went_on start now next i s t w v f (Ok (Note text)) n p q l r e k h = answered start now next i s t w v f (Note text) p q (r.written e) k h
went_on start now next i s t w v f (Ok (Ends status)) n p q l r e k h = let no : Exit status ≡ Read = sym r.0 ∙ e in cc no
went_on start now next i s t w v f (Err a) n p q l r e k h = record {
  output = h.output ++ frame OUT_OF_MEMORY.now;
  written = appended start now next h.output (frame OUT_OF_MEMORY.now) h.written (r.written e);
  serves = subst (λ (x : Waiting). Serves i (h.output ++ frame OUT_OF_MEMORY.now) t x) (sym k) (fails i h.output s t w f h.serves p l);
}

status_small : (s : Stage) → status_of s ≤ 1
status_small Fresh = omega arith
status_small Ready = omega arith
status_small ShutDown = omega arith

answer_small : (s t : Server) (content : List ℕ) (status : ℕ) → IsAnswer s content (Ends status) t → status ≤ 1
answer_small s t content status (request d id method e p a) = absurd a
answer_small s t content status (notification d method e p a) = let small = status_small s.stage in omega (arith, a.2, small)
answer_small s t content status (response d e p a b) = cc a
answer_small s t content status (no_message d e p a b) = absurd a
answer_small s t content status (no_json e a b) = absurd a
answer_small s t content status (no_memory a b) = absurd a

-- the status of a message that ends the run is 0 or 1
front_small : (s t : Server) (bytes : List ℕ) (f : Front) (status : ℕ) → FrontAnswers s bytes f (Ends status) t → status ≤ 1
front_small s t bytes Part status a = cc a.0
front_small s t bytes (Message start end) status a = answer_small s t (slice_range bytes start end) status a
front_small s t bytes (TooLong start long) status a = absurd a.0
front_small s t bytes (Wrong fault end) status a = absurd a.0
front_small s t bytes NoEnd status a = absurd a.0

-- a text that was to be written ends no run
written_stops : (start now next : Option (List ℕ)) (i text : List ℕ) (t : Server) (w : Waiting) (n : Next) → Writes text now next n → ¬ (n ≡ Read) → GoesOn n start next i t w
written_stops start now next i text t w Read r e = absurd (e refl)
written_stops start now next i text t w (Exit status) r e = elim r.ways [ inl a ↦ cc a | inr a ↦ cc a ]
written_stops start now next i text t w CannotWrite r e = tt
written_stops start now next i text t w Lost r e = tt

-- the run stops after an answer
pub stopped : (start now next : Option (List ℕ)) (i : List ℕ) (s t : Server) (w : Waiting) (f : Front) (r : Result Outcome AllocError) (n : Next) → Fronts LIMIT w.bytes f
    → IfOk r (λ o. FrontAnswers s w.bytes f o t) → Sends r now next n → ¬ (n ≡ Read) → IsServed start now i s w → GoesOn n start next i t w
stopped start now next i s t w f (Ok Nothing) n p q r e h = absurd (e r.0)
stopped start now next i s t w f (Ok (Reply text)) n p q r e h = written_stops start now next i (string_bytes text) t w n r e
stopped start now next i s t w f (Ok (Note text)) n p q r e h = written_stops start now next i (string_bytes text) t w n r e
stopped start now next i s t w f (Ok (Ends status)) n p q r e h =
    let exit : IsExited start next i w status = record {
      before = s;
      after = t;
      front = f;
      served = subst (λ (x : Option (List ℕ)). IsServed start x i s w) (sym r.1) h;
      fronts = p;
      exits = q;
      small = front_small s t w.bytes f status q;
    } in
    subst (λ (m : Next). GoesOn m start next i t w) (sym r.0) exit
stopped start now next i s t w f (Err a) n p q r e h = written_stops start now next i OUT_OF_MEMORY.now t w n r e

-- the message at the front is left out, and a piece comes
pub left_out : (start now next : Option (List ℕ)) (i piece : List ℕ) (s : Server) (w v u : Waiting) (f : Front) (n : Next) → Fronts 0 w.bytes f
    → v ≡ passed w (taken f) → u ≡ come v piece → Writes OUT_OF_MEMORY.now now next n → IsServed start now i s w → GoesOn n start next (i ++ piece) s u
left_out start now next i piece s w v u f Read p e k r h =
    let out : IsServed start next i s v = record {
      output = h.output ++ frame OUT_OF_MEMORY.now;
      written = appended start now next h.output (frame OUT_OF_MEMORY.now) h.written (r.written refl);
      serves = subst (λ (x : Waiting). Serves i (h.output ++ frame OUT_OF_MEMORY.now) s x) (sym e) (leaves_out i h.output s w f h.serves p);
    } in
    came start next i piece s v u k out
left_out start now next i piece s w v u f (Exit status) p e k r h = elim r.ways [ inl a ↦ cc a | inr a ↦ cc a ]
left_out start now next i piece s w v u f CannotWrite p e k r h = tt
left_out start now next i piece s w v u f Lost p e k r h = tt

-- a run that goes on
pub goes_on : (start now : Option (List ℕ)) (i : List ℕ) (s : Server) (w : Waiting) (n : Next) → n ≡ Read → GoesOn n start now i s w → IsServed start now i s w
goes_on start now i s w n e h = subst (λ (m : Next). GoesOn m start now i s w) e h

-- a run goes on with a piece
pub ran_on : (start now next left mid rest : Option (List ℕ)) (s t : Server) (w v : Waiting) (piece : List ℕ) (n : Next) → IsRunning start now left mid s w
    → Consumes mid rest piece → ((i : List ℕ) → IsServed start now i s w → GoesOn n start next (i ++ piece) t v) → n ≡ Read → IsRunning start next left rest t v
ran_on start now next left mid rest s t w v piece n h p f e = record {
  input = h.input ++ piece;
  read = consumed left mid rest h.input piece h.read p;
  served = goes_on start next (h.input ++ piece) t v n e (f h.input h.served);
}

exited : (start now : Option (List ℕ)) (i : List ℕ) (s : Server) (w : Waiting) (n : Next) (status : ℕ) → n ≡ Exit status → GoesOn n start now i s w → IsExited start now i w status
exited start now i s w n status e h = subst (λ (m : Next). GoesOn m start now i s w) e h

-- a run ends by a message
pub ran_out : (start now next left mid rest : Option (List ℕ)) (s t : Server) (w v : Waiting) (piece : List ℕ) (n : Next) (status : ℕ) → IsRunning start now left mid s w
    → Consumes mid rest piece → ((i : List ℕ) → IsServed start now i s w → GoesOn n start next (i ++ piece) t v) → n ≡ Exit status → IsRun start next left rest status × (status ≤ 1)
ran_out start now next left mid rest s t w v piece n status h p f e =
    let exit = exited start next (h.input ++ piece) t v n status e (f h.input h.served) in
    (record { input = h.input ++ piece; server = t; w = v; read = consumed left mid rest h.input piece h.read p; ends = inl exit }, exit.small)

-- a run ends with the input
pub ran_dry : (start now left mid rest : Option (List ℕ)) (s : Server) (w : Waiting) (piece : List ℕ) (count status : ℕ) → IsRunning start now left mid s w
    → Consumes mid rest (take count piece) → count ≡ 0 → IsAtEnd rest → w ≡ record { bytes = []; skip = 0 } → status ≡ status_of s.stage → IsRun start now left rest status
ran_dry start now left mid rest s w piece count status h p none at_end empty is =
    let nothing : Consumes mid rest [] = subst (λ (n : ℕ). Consumes mid rest (take n piece)) none p in
    let all : Consumes left rest (h.input ++ []) = consumed left mid rest h.input [] h.read nothing in
    record {
      input = h.input;
      server = s;
      w = w;
      read = subst (λ (x : List ℕ). Consumes left rest x) (append-nil h.input) all;
      ends = inr (h.served, at_end, empty, is);
    }

-- what was reported where nothing was before
pub reported_since : {E : Type 0} (r : Result ℕ E) (a b n : Option (List ℕ)) → a ≡ b → IfOk r (λ status. status ≡ 2 → IsReported a n) → IfOk r (λ status. status ≡ 2 → IsReported b n)
reported_since r a b n e h = subst (λ (x : Option (List ℕ)). IfOk r (λ status. status ≡ 2 → IsReported x n)) e h
