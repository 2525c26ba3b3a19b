-- What a call that is lent its records promises: of what the call by value is defined to answer and to leave, its number and all that
-- is lent, as it is afterwards. A call's own definition stands with the call by value. Written by tools/ctrack.py.
use Rattle.std.specs.Prelude.{◌≡◌, List, ℕ, ℤ}
use Rattle.state.specs.declared.TrackAnswer.{TrackAnswer}
use Rattle.state.specs.declared.Track.{Track}
use Rattle.drawing.specs.declared.OptionAnswer.{OptionAnswer}
use Rattle.values.specs.declared.WriteOption.{WriteOption}
use Rattle.writing.specs.declared.Outcome.{Outcome}
use Rattle.budget.specs.declared.Budget.{Budget}
use Rattle.reserving.specs.declared.Kept.{Kept}
use Rattle.cycles.specs.declared.Cycle.{Cycle}
use Rattle.noting.specs.declared.Noted.{Noted}
use Rattle.cycling.specs.declared.Cycled.{Cycled}
use Rattle.cutting.specs.declared.CcValue.{CcValue}
use Rattle.eventlist.specs.declared.Taken.{Taken}
use Rattle.chunks.specs.declared.Chunk.{Chunk}
use Rattle.profile.specs.declared.ProfileAnswer.{ProfileAnswer}
use Rattle.playing.specs.declared.TrackValue.{TrackValue}
use Rattle.playing.specs.declared.TrackVelocity.{TrackVelocity}
use Rattle.events.specs.declared.Size.{Size}
use Rattle.params.specs.declared.ParamAnswer.{ParamAnswer}
use Rattle.params.specs.declared.NoteParam.{NoteParam}
use Rattle.params.specs.declared.Told.{Told}
use Rattle.params.specs.declared.ParamValue.{ParamValue}
use Rattle.layers.specs.declared.LayersAnswer.{LayersAnswer}
use Rattle.layers.specs.declared.Layers.{Layers}
use Rattle.layers.specs.declared.Velocity.{Velocity}
use Rattle.ctrack.specs.declared.CycleTold.{CycleTold}

-- a call that is defined to answer a: it answers the number r and leaves the track t
pub record TrackLeft (a : TrackAnswer) (r : ℕ) (t : Track) : Type 0 where
  pub code : r ≡ a.code
  pub track : t ≡ a.track

-- the option of a target: the number r, the option o
pub record OptionTold (a : OptionAnswer) (r : ℕ) (o : WriteOption) : Type 0 where
  pub code : r ≡ a.code
  pub option : o ≡ a.option

-- a write whose outcome is a and which leaves the numbers l in the list: the number r, the count n, the budget b, the numbers m
pub record Written (a : Outcome) (l : List ℤ) (r : ℕ) (n : ℕ) (b : Budget) (m : List ℤ) : Type 0 where
  pub code : r ≡ a.code
  pub count : n ≡ a.count
  pub budget : b ≡ a.budget
  pub events : m ≡ l

-- a setter that is defined to leave a: the number r, the track t, the records cs of the lent cycle table
pub record Reserved (a : Kept) (r : ℕ) (t : Track) (cs : List Cycle) : Type 0 where
  pub code : r ≡ a.code
  pub track : t ≡ a.track
  pub cycles : cs ≡ a.cycles

-- the same of the write for a note, which leaves the track t besides
pub record NoteWritten (a : Noted) (l : List ℤ) (r : ℕ) (n : ℕ) (b : Budget) (t : Track) (m : List ℤ) : Type 0 where
  pub code : r ≡ a.code
  pub count : n ≡ a.count
  pub budget : b ≡ a.budget
  pub track : t ≡ a.track
  pub events : m ≡ l

-- the write of the cycles: besides, the records cs of the lent cycle table
pub record CycleWritten (a : Cycled) (l : List ℤ) (r : ℕ) (n : ℕ) (b : Budget) (cs : List Cycle) (m : List ℤ) : Type 0 where
  pub code : r ≡ a.code
  pub count : n ≡ a.count
  pub budget : b ≡ a.budget
  pub cycles : cs ≡ a.cycles
  pub events : m ≡ l

-- a controller's value
pub record CcTold (a : CcValue) (r : ℕ) (v : ℤ) : Type 0 where
  pub code : r ≡ a.code
  pub value : v ≡ a.value

-- a call on the list alone: the number r, the count n, the numbers m
pub record ListLeft (a : Taken) (l : List ℤ) (r : ℕ) (n : ℕ) (m : List ℤ) : Type 0 where
  pub code : r ≡ a.code
  pub count : n ≡ a.count
  pub events : m ≡ l

-- a call that writes into an output: the number r, the bytes n, every byte m of the output
pub record ChunkLeft (a : Chunk) (l : List ℕ) (r : ℕ) (n : ℕ) (m : List ℕ) : Type 0 where
  pub code : r ≡ a.code
  pub bytes : n ≡ a.bytes
  pub output : m ≡ l

-- the check of a list: the number r, and k, 1 for yes and 0 for no
pub record ProfileTold (a : ProfileAnswer) (r : ℕ) (k : ℕ) : Type 0 where
  pub code : r ≡ a.code
  pub yes : k ≡ a.yes

-- the same with the value v
pub record ValueLeft (a : TrackValue) (r : ℕ) (v : ℤ) (t : Track) : Type 0 where
  pub code : r ≡ a.code
  pub value : v ≡ a.value
  pub track : t ≡ a.track

-- the same of a velocity
pub record VelocityLeft (a : TrackVelocity) (r : ℕ) (v : ℤ) (t : Track) : Type 0 where
  pub code : r ≡ a.code
  pub value : v ≡ a.value
  pub track : t ≡ a.track

-- the bytes n of an event
pub record SizeTold (a : Size) (r : ℕ) (n : ℕ) : Type 0 where
  pub code : r ≡ a.code
  pub bytes : n ≡ a.bytes

-- a parameter that is lent by itself: the number r, the parameter p
pub record ParamLeft (a : ParamAnswer) (r : ℕ) (p : NoteParam) : Type 0 where
  pub code : r ≡ a.code
  pub param : p ≡ a.param

-- a value alone
pub record ParamTold (a : Told) (r : ℕ) (v : ℤ) : Type 0 where
  pub code : r ≡ a.code
  pub value : v ≡ a.value

-- the same with the value v
pub record ParamTaken (a : ParamValue) (r : ℕ) (v : ℤ) (p : NoteParam) : Type 0 where
  pub code : r ≡ a.code
  pub value : v ≡ a.value
  pub param : p ≡ a.param

-- layers that are lent by themselves: the number r, the layers l
pub record LayersLeft (a : LayersAnswer) (r : ℕ) (l : Layers) : Type 0 where
  pub code : r ≡ a.code
  pub layers : l ≡ a.layers

-- the same with the velocity v
pub record LayersSum (a : Velocity) (r : ℕ) (v : ℤ) (l : Layers) : Type 0 where
  pub code : r ≡ a.code
  pub value : v ≡ a.value
  pub layers : l ≡ a.layers

-- a cycle over time: k is 1 where it has the value v, else 0
pub record TimeTold (a : CycleTold) (r : ℕ) (k : ℕ) (v : ℤ) : Type 0 where
  pub code : r ≡ a.code
  pub found : k ≡ a.found
  pub value : v ≡ a.value
