-- What waits in the bytes of a stream.
use Rattle.std.specs.Prelude.{drop}
use Rattle.rast_frames.specs.Reading.{Waiting}
use Rattle.rast_frames.specs.declared.frames.Frames.{Frames}

abbrev pub waiting : Frames → Waiting
waiting f = record { bytes = drop f.from f.bytes.items; skip = f.skip }
