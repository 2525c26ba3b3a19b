-- Where the fields of each record lie that the library is handed or hands out, as the machine has them: its size, its alignment, and the place
-- of each field. include/dollavir.h asserts the same numbers of the same records. Made by tools/header.py.
use mathlib.Core.Path.{◌≡◌, refl}
use mathlib.Core.List.{List, [], ◌∷◌}
use Prim.Native.Nat.{ℕ, zero, ◌+◌}
use mir.Syntax.{Ty, Tys, tnil, tcons, ty_int, ty_bool, ty_float, ty_ptr, ty_ref, ty_array, ty_unit, ty_struct, ty_enum, ty_param, ty_const, ty_array_p, ty_named}
use prog.Memory.{size, align, up}
use Rattle.counted.proofs.Numbers.TheLaws as Numbers'
use Rattle.reserved.proofs.Reserve.TheLaws as Reserve'
use Rattle.params.proofs.NoteParam.TheLaws as NoteParam'
use Rattle.layers.proofs.Layer.TheLaws as Layer'
use Rattle.layers.proofs.Layers.TheLaws as Layers'
use Rattle.values.proofs.WriteOption.TheLaws as WriteOption'
use Rattle.tables.proofs.OnNoteValues.TheLaws as OnNoteValues'
use Rattle.tables.proofs.NoteTable.TheLaws as NoteTable'
use Rattle.tables.proofs.OnNoteWave.TheLaws as OnNoteWave'
use Rattle.tables.proofs.WaveTable.TheLaws as WaveTable'
use Rattle.tables.proofs.OnNoteSine.TheLaws as OnNoteSine'
use Rattle.tables.proofs.SineTable.TheLaws as SineTable'
use Rattle.state.proofs.Track.TheLaws as Track'
use Rattle.state.proofs.TrackAnswer.TheLaws as TrackAnswer'
use Rattle.budget.proofs.Budget.TheLaws as Budget'
use Rattle.budget.proofs.BudgetAnswer.TheLaws as BudgetAnswer'
use Rattle.cycles.proofs.Cycle.TheLaws as Cycle'
use Rattle.tables.proofs.SineAnswer.TheLaws as SineAnswer'
use Rattle.reserved.proofs.OnCycleTime.TheLaws as OnCycleTime'
use Rattle.reserved.proofs.CycleTimeAnswer.TheLaws as CycleTimeAnswer'
use Rattle.events.proofs.Event.TheLaws as Event'
use Rattle.events.proofs.Made.TheLaws as Made'

-- the place of each field, where the first may stand at k
abbrev pub places : ℕ → Tys → List ℕ
places k tnil = []
places k (tcons τ τs) = up (align τ) k ∷ places (up (align τ) k + size τ) τs

-- a struct's size, alignment and places
abbrev pub lies : Ty → List ℕ
lies (ty_struct ν τs) = size (ty_struct ν τs) ∷ align (ty_struct ν τs) ∷ places zero τs
lies (ty_int w) = []
lies ty_bool = []
lies (ty_float f) = []
lies ty_ptr = []
lies (ty_ref κ μ τ) = []
lies (ty_array τ n) = []
lies ty_unit = []
lies (ty_enum ν τss) = []
lies (ty_param n) = []
lies (ty_const n) = []
lies (ty_array_p τ n) = []
lies (ty_named ν τs) = []

pub numbers-lies : lies Numbers'.mir ≡ 776 ∷ 8 ∷ 0 ∷ 8 ∷ []
numbers-lies = refl

pub reserve-lies : lies Reserve'.mir ≡ 808 ∷ 8 ∷ 0 ∷ 4 ∷ 8 ∷ 16 ∷ 24 ∷ 32 ∷ []
reserve-lies = refl

pub note-param-lies : lies NoteParam'.mir ≡ 840 ∷ 8 ∷ 0 ∷ 808 ∷ 812 ∷ 816 ∷ 820 ∷ 824 ∷ 828 ∷ 832 ∷ 836 ∷ []
note-param-lies = refl

pub layer-lies : lies Layer'.mir ≡ 816 ∷ 8 ∷ 0 ∷ 4 ∷ 8 ∷ []
layer-lies = refl

pub layers-lies : lies Layers'.mir ≡ 13064 ∷ 8 ∷ 0 ∷ 8 ∷ []
layers-lies = refl

pub write-option-lies : lies WriteOption'.mir ≡ 24 ∷ 4 ∷ 0 ∷ 4 ∷ 8 ∷ 12 ∷ 16 ∷ 20 ∷ []
write-option-lies = refl

pub on-note-values-lies : lies OnNoteValues'.mir ≡ 800 ∷ 8 ∷ 0 ∷ 8 ∷ 16 ∷ 24 ∷ []
on-note-values-lies = refl

pub note-table-lies : lies NoteTable'.mir ≡ 12808 ∷ 8 ∷ 0 ∷ 8 ∷ []
note-table-lies = refl

pub on-note-wave-lies : lies OnNoteWave'.mir ≡ 784 ∷ 8 ∷ 0 ∷ 4 ∷ 8 ∷ []
on-note-wave-lies = refl

pub wave-table-lies : lies WaveTable'.mir ≡ 12552 ∷ 8 ∷ 0 ∷ 8 ∷ []
wave-table-lies = refl

pub on-note-sine-lies : lies OnNoteSine'.mir ≡ 24 ∷ 4 ∷ 0 ∷ 4 ∷ 8 ∷ 12 ∷ 16 ∷ 20 ∷ []
on-note-sine-lies = refl

pub sine-table-lies : lies SineTable'.mir ≡ 392 ∷ 8 ∷ 0 ∷ 8 ∷ []
sine-table-lies = refl

pub track-lies : lies Track'.mir ≡ 46168 ∷ 8 ∷ 0 ∷ 8 ∷ 16 ∷ 20 ∷ 24 ∷ 28 ∷ 32 ∷ 36 ∷ 40 ∷ 44 ∷ 48 ∷ 888 ∷ 1728 ∷ 2568 ∷ 3408 ∷ 4248 ∷ 17312 ∷ 20408 ∷ 33216 ∷ 45768 ∷ 46160 ∷ []
track-lies = refl

pub track-answer-lies : lies TrackAnswer'.mir ≡ 46176 ∷ 8 ∷ 0 ∷ 8 ∷ []
track-answer-lies = refl

pub budget-lies : lies Budget'.mir ≡ 16 ∷ 4 ∷ 0 ∷ 4 ∷ 8 ∷ 12 ∷ []
budget-lies = refl

pub budget-answer-lies : lies BudgetAnswer'.mir ≡ 20 ∷ 4 ∷ 0 ∷ 4 ∷ []
budget-answer-lies = refl

pub cycle-lies : lies Cycle'.mir ≡ 800 ∷ 8 ∷ 0 ∷ 4 ∷ 8 ∷ 16 ∷ 24 ∷ []
cycle-lies = refl

pub sine-answer-lies : lies SineAnswer'.mir ≡ 28 ∷ 4 ∷ 0 ∷ 4 ∷ []
sine-answer-lies = refl

pub on-cycle-time-lies : lies OnCycleTime'.mir ≡ 792 ∷ 8 ∷ 0 ∷ 8 ∷ 16 ∷ []
on-cycle-time-lies = refl

pub cycle-time-answer-lies : lies CycleTimeAnswer'.mir ≡ 800 ∷ 8 ∷ 0 ∷ 8 ∷ []
cycle-time-answer-lies = refl

pub event-lies : lies Event'.mir ≡ 64 ∷ 8 ∷ 0 ∷ 8 ∷ 16 ∷ 24 ∷ 32 ∷ 40 ∷ 48 ∷ 56 ∷ []
event-lies = refl

pub made-lies : lies Made'.mir ≡ 72 ∷ 8 ∷ 0 ∷ 8 ∷ []
made-lies = refl
