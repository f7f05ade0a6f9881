-- What a program tells of itself, and the lines that report wrong words and a file that cannot be read.
use Rattle.std.specs.Prelude.{◌⊎◌, ℕ, List, ◌++◌, chars, codes}
use Rattle.std.specs.declared.io.ErrorKind.{ErrorKind}
use Rattle.std.specs.declared.io.ErrorKind.TheVariants.{NotFound, PermissionDenied, IsADirectory, NotADirectory, InvalidFilename, InvalidData, OutOfMemory}
use Rattle.rast_common.specs.Quote.{quoted}
use Rattle.rast_common.specs.declared.program.Program.{Program}
use Rattle.rast_common.specs.declared.words.Common.{Common}
use Rattle.rast_common.specs.declared.words.Common.TheVariants.{Help, Version}
use Rattle.rast_common.specs.declared.words.WrongWords.{WrongWords}
use Rattle.rast_common.specs.declared.words.WrongWords.TheVariants.{Number, Word}

-- what a program tells of itself
abbrev pub told : Program → Common → List ℕ
told p Help = p.usage.now ++ p.options.now
told p Version = p.version.now

-- a line about a word, which is in quotes between two texts
abbrev pub line_of : Program → List ℕ → List ℕ → List ℕ → List ℕ → List ℕ
line_of p before word after what = p.name.now ++ (before ++ (quoted (chars word) ++ (after ++ (what ++ codes "\n"))))

-- why a file cannot be read
abbrev pub cause_text : ErrorKind → List ℕ
cause_text NotFound = codes "there is no such file"
cause_text PermissionDenied = codes "permission denied"
cause_text IsADirectory = codes "it is a folder"
cause_text NotADirectory = codes "a part of its path is no folder"
cause_text InvalidFilename = codes "its name is too long"
cause_text InvalidData = codes "it is no UTF-8"
cause_text OutOfMemory = codes "no memory"
cause_text _ = codes "the system refuses it"

-- the line about a file that cannot be read
abbrev pub unread_line : Program → List ℕ → ErrorKind → List ℕ
unread_line p file kind = line_of p (codes ": cannot read ") file (codes ": ") (cause_text kind)

-- something holds of this line, or, as memory ran out, of the line that says so
abbrev pub Reports : Program → List ℕ → (List ℕ → Type 0) → Type 0
Reports p line Holds = Holds line ⊎ Holds p.no_memory.now

-- something holds of what is reported about wrong words
abbrev pub Refuses : Program → WrongWords → (List ℕ → Type 0) → Type 0
Refuses p Number Holds = Holds p.usage.now
Refuses p (Word word place) Holds = Reports p (line_of p (codes ": ") word.now (codes " is no ") place.now) Holds
