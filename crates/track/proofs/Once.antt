-- No second outcome satisfies a contract, said of each public call under its name, and of its contract itself: `clauses` is what the checker made of the
-- `ensures` in the function's source, in every model of its logic, and closed it is the contract that the function was proved to meet (`met`). `once`: whatever
-- the arguments, two answers with two values of every record and list that is lent, both as the contract promises, are the same.
--     of-track, of-param, of-layers, of-events, of-records   what is handed by value
--     of-list, of-writes, of-reserving                       what is lent a list
--     of-lent                                                what is lent budget and table too
-- A promise is an equation for the answer and for each thing that is lent (`same`, `agree`). An answer that is an enum has a promise that speaks of its number
-- and values: `said-once` says that these tell a cycle's value.
use mathlib.Core.Path.{◌≡◌, refl, sym, ap, ap₂, ◌∙◌}
use mathlib.Core.List.{List}
use Prim.Native.Nat.{ℕ}
use native.Mathlib.Omega.{arith}
use seplogic.Ra.Ura.{Ura}
use lib.IntN.{ℤ, pos}
use lib.ListN.{length}
use base.Logic.{SProp, ent}
use prog.Memory.{Memory}
use prog.Routine.{Routine}
use types.Logic.{Logic}
use contract.Lifetimes.{Lfts}
use contract.Monad.{Fun, conj, conj_l, conj_r, fact, fact_i, fact_use}
use denote.Triple.Entry.{Args, Res}
use denote.Triple.Spec.{Spec}
use denote.Triple.Clauses.{Ended, Clauses, Lasts, at_exit, closing}
use Rattle.numbers.specs.contracts as numbers
use Rattle.budget.specs.declared.Budget.{Budget}
use Rattle.budget.specs.contracts as budget
use Rattle.events.specs.contracts as events
use Rattle.eventlist.specs.contracts as eventlist
use Rattle.sorting.specs.contracts as sorting
use Rattle.chunks.specs.contracts as chunks
use Rattle.reader.specs.contracts as reader
use Rattle.profile.specs.contracts as profile
use Rattle.notes.specs.contracts as notes
use Rattle.cutting.specs.contracts as cutting
use Rattle.sines.specs.contracts as sines
use Rattle.sines.proofs.Named.{kind-once}
use Rattle.std.proofs.Common.{Option, Result}
use Rattle.numbers.specs.declared.refusals.Refusal.{Refusal}
use Rattle.reserved.proofs.Saying.{same_case}
use Rattle.laws.specs.Answers.{Said}
use Rattle.reserved.specs.Cycle.{said}
use Rattle.reserved.specs.Reserve.{first_or}
use Rattle.reserved.specs.contracts as reserved
use Rattle.params.specs.contracts as params
use Rattle.layers.specs.contracts as layers
use Rattle.values.specs.contracts as values
use Rattle.cycles.specs.declared.Cycle.{Cycle}
use Rattle.cycles.specs.contracts as cycles
use Rattle.tables.specs.contracts as tables
use Rattle.state.specs.contracts as state
use Rattle.playing.specs.contracts as playing
use Rattle.drawing.specs.contracts as drawing
use Rattle.cycling.specs.contracts as cycling
use Rattle.noting.specs.contracts as noting
use Rattle.reserving.specs.contracts as reserving
use Rattle.waving.specs.contracts as waving
use Rattle.lending.specs.contracts as lending
use Rattle.loans.specs.contracts as loans
use Rattle.track.specs.contracts as own
use Rattle.playing.proofs.Answers.{ap₃}

-- ---- a contract that one outcome alone satisfies
module _ {M : Type 1} (𝓤 : Ura M) where
  -- two outcomes of a call: of lifetimes κs and arguments x the answers r and r', and w and w' for what each thing that is lent is afterwards
  pub record Two (T : Ended) (c : Clauses 𝓤 T) : Type 0 where
    pub κs : Lfts T.signature.lifetimes
    pub x : Args T.signature κs
    pub g : (c κs x).ghost
    pub g' : (c κs x).ghost
    pub r : Res T.signature κs
    pub r' : Res T.signature κs
    pub w : Lasts T κs x
    pub w' : Lasts T κs x

  -- the clauses c, closed, are the contract p of the function's theorem; and no two outcomes satisfy them
  pub record Once (𝓛 : Logic 𝓤) (T : Ended) (c : Clauses 𝓤 T) (p : Spec 𝓤 T.signature) : Type 2 where
    pub met : p ≡ closing 𝓛 T c
    pub once :
        (o : Two T c)
        → ent 𝓤 (conj 𝓤 ((c o.κs o.x).ensures o.g o.r (at_exit T o.κs o.x o.w)) ((c o.κs o.x).ensures o.g' o.r' (at_exit T o.κs o.x o.w')))
        (fact 𝓤 ((o.r ≡ o.r') × (o.w ≡ o.w')))

  facts : (φ ψ χ : Type 0) → (φ → ψ → χ) → ent 𝓤 (conj 𝓤 (fact 𝓤 φ) (fact 𝓤 ψ)) (fact 𝓤 χ)
  facts φ ψ χ f = fact_use 𝓤 φ (conj_l 𝓤 (fact 𝓤 φ) (fact 𝓤 ψ)) (λ p. fact_use 𝓤 ψ (conj_r 𝓤 (fact 𝓤 φ) (fact 𝓤 ψ)) (λ q. fact_i 𝓤 χ _ (f p q)))

  -- nothing is lent
  same : {R L : Type 0} (d r r' : R) (w w' : L) → w ≡ w' → ent 𝓤 (conj 𝓤 (fact 𝓤 (r ≡ d)) (fact 𝓤 (r' ≡ d))) (fact 𝓤 ((r ≡ r') × (w ≡ w')))
  same d r r' w w' e = facts _ _ _ (λ p q. (p ∙ sym q, e))

agree : {A : Type 0} {d x y : A} → x ≡ d → y ≡ d → x ≡ y
agree p q = p ∙ sym q

-- ---- a cycle's value: what is said tells it
pub said-once : (s : Said) (x y : Result (Option ℤ) Refusal) → said x ≡ s → said y ≡ s → x ≡ y
said-once s x y p q = same_case x y (p ∙ sym q)

-- ---- each call
module _ {M : Type 1} {𝓤 : Ura M} (𝓛 : Logic 𝓤) (mem : Memory → SProp 𝓤) (run : Routine → Fun 𝓤) where
  -- ---- the track
  pub record OfTrack : Type 2 where
    pub new : Once 𝓤 𝓛 state.Track.new.ended (state.Track.new.clauses 𝓛 mem run) (state.Track.new.spec 𝓛 mem run)
    pub set-timepos : Once 𝓤 𝓛 state.set_timepos.ended (state.set_timepos.clauses 𝓛 mem run) (state.set_timepos.spec 𝓛 mem run)
    pub set-channel : Once 𝓤 𝓛 state.set_channel.ended (state.set_channel.clauses 𝓛 mem run) (state.set_channel.spec 𝓛 mem run)
    pub set-cc-on-time-freq : Once 𝓤 𝓛 state.set_cc_on_time_freq.ended (state.set_cc_on_time_freq.clauses 𝓛 mem run) (state.set_cc_on_time_freq.spec 𝓛 mem run)
    pub set-pb-on-time-freq : Once 𝓤 𝓛 state.set_pb_on_time_freq.ended (state.set_pb_on_time_freq.clauses 𝓛 mem run) (state.set_pb_on_time_freq.spec 𝓛 mem run)
    pub calc-v-on-time : Once 𝓤 𝓛 playing.calc_v_on_time.ended (playing.calc_v_on_time.clauses 𝓛 mem run) (playing.calc_v_on_time.spec 𝓛 mem run)
    pub calc-t-on-time : Once 𝓤 𝓛 playing.calc_t_on_time.ended (playing.calc_t_on_time.clauses 𝓛 mem run) (playing.calc_t_on_time.spec 𝓛 mem run)
    pub calc-qlen-on-time : Once 𝓤 𝓛 playing.calc_qlen_on_time.ended (playing.calc_qlen_on_time.clauses 𝓛 mem run) (playing.calc_qlen_on_time.spec 𝓛 mem run)
    pub calc-o-on-time : Once 𝓤 𝓛 playing.calc_o_on_time.ended (playing.calc_o_on_time.clauses 𝓛 mem run) (playing.calc_o_on_time.spec 𝓛 mem run)
    pub calc-l-on-time : Once 𝓤 𝓛 playing.calc_l_on_time.ended (playing.calc_l_on_time.clauses 𝓛 mem run) (playing.calc_l_on_time.spec 𝓛 mem run)
    pub calc-v-on-note : Once 𝓤 𝓛 playing.calc_v_on_note.ended (playing.calc_v_on_note.clauses 𝓛 mem run) (playing.calc_v_on_note.spec 𝓛 mem run)
    pub calc-t-on-note : Once 𝓤 𝓛 playing.calc_t_on_note.ended (playing.calc_t_on_note.clauses 𝓛 mem run) (playing.calc_t_on_note.spec 𝓛 mem run)
    pub calc-qlen-on-note : Once 𝓤 𝓛 playing.calc_qlen_on_note.ended (playing.calc_qlen_on_note.clauses 𝓛 mem run) (playing.calc_qlen_on_note.spec 𝓛 mem run)
    pub calc-o-on-note : Once 𝓤 𝓛 playing.calc_o_on_note.ended (playing.calc_o_on_note.clauses 𝓛 mem run) (playing.calc_o_on_note.spec 𝓛 mem run)
    pub calc-l-on-note : Once 𝓤 𝓛 playing.calc_l_on_note.ended (playing.calc_l_on_note.clauses 𝓛 mem run) (playing.calc_l_on_note.spec 𝓛 mem run)
    pub set-v-sub : Once 𝓤 𝓛 playing.set_v_sub.ended (playing.set_v_sub.clauses 𝓛 mem run) (playing.set_v_sub.spec 𝓛 mem run)
    pub set-v-sub-random : Once 𝓤 𝓛 playing.set_v_sub_random.ended (playing.set_v_sub_random.clauses 𝓛 mem run) (playing.set_v_sub_random.spec 𝓛 mem run)
    pub set-v-sub-on-time : Once 𝓤 𝓛 playing.set_v_sub_on_time.ended (playing.set_v_sub_on_time.clauses 𝓛 mem run) (playing.set_v_sub_on_time.spec 𝓛 mem run)
    pub set-v-sub-on-cycle : Once 𝓤 𝓛 playing.set_v_sub_on_cycle.ended (playing.set_v_sub_on_cycle.clauses 𝓛 mem run) (playing.set_v_sub_on_cycle.spec 𝓛 mem run)
    pub set-v-sub-on-note : Once 𝓤 𝓛 playing.set_v_sub_on_note.ended (playing.set_v_sub_on_note.clauses 𝓛 mem run) (playing.set_v_sub_on_note.spec 𝓛 mem run)
    pub apply-v-sub : Once 𝓤 𝓛 playing.apply_v_sub.ended (playing.apply_v_sub.clauses 𝓛 mem run) (playing.apply_v_sub.spec 𝓛 mem run)
    pub set-param-on-time : Once 𝓤 𝓛 playing.set_param_on_time.ended (playing.set_param_on_time.clauses 𝓛 mem run) (playing.set_param_on_time.spec 𝓛 mem run)
    pub set-param-on-cycle : Once 𝓤 𝓛 playing.set_param_on_cycle.ended (playing.set_param_on_cycle.clauses 𝓛 mem run) (playing.set_param_on_cycle.spec 𝓛 mem run)
    pub set-param-on-note : Once 𝓤 𝓛 playing.set_param_on_note.ended (playing.set_param_on_note.clauses 𝓛 mem run) (playing.set_param_on_note.spec 𝓛 mem run)
    pub clear-param-reserve : Once 𝓤 𝓛 playing.clear_param_reserve.ended (playing.clear_param_reserve.clauses 𝓛 mem run) (playing.clear_param_reserve.spec 𝓛 mem run)
    pub set-param-random : Once 𝓤 𝓛 playing.set_param_random.ended (playing.set_param_random.clauses 𝓛 mem run) (playing.set_param_random.spec 𝓛 mem run)
    pub set-param-range : Once 𝓤 𝓛 playing.set_param_range.ended (playing.set_param_range.clauses 𝓛 mem run) (playing.set_param_range.spec 𝓛 mem run)
    pub clear-param-range : Once 𝓤 𝓛 playing.clear_param_range.ended (playing.clear_param_range.clauses 𝓛 mem run) (playing.clear_param_range.spec 𝓛 mem run)
    pub set-param-delay : Once 𝓤 𝓛 playing.set_param_delay.ended (playing.set_param_delay.clauses 𝓛 mem run) (playing.set_param_delay.spec 𝓛 mem run)
    pub set-param-max : Once 𝓤 𝓛 playing.set_param_max.ended (playing.set_param_max.clauses 𝓛 mem run) (playing.set_param_max.spec 𝓛 mem run)
    pub clear-param-max : Once 𝓤 𝓛 playing.clear_param_max.ended (playing.clear_param_max.clauses 𝓛 mem run) (playing.clear_param_max.spec 𝓛 mem run)
    pub set-param-repeat : Once 𝓤 𝓛 playing.set_param_repeat.ended (playing.set_param_repeat.clauses 𝓛 mem run) (playing.set_param_repeat.spec 𝓛 mem run)
    pub get-write-opt : Once 𝓤 𝓛 drawing.get_write_opt.ended (drawing.get_write_opt.clauses 𝓛 mem run) (drawing.get_write_opt.spec 𝓛 mem run)
    pub set-delay : Once 𝓤 𝓛 drawing.set_delay.ended (drawing.set_delay.clauses 𝓛 mem run) (drawing.set_delay.spec 𝓛 mem run)
    pub set-random : Once 𝓤 𝓛 drawing.set_random.ended (drawing.set_random.clauses 𝓛 mem run) (drawing.set_random.spec 𝓛 mem run)
    pub set-range : Once 𝓤 𝓛 drawing.set_range.ended (drawing.set_range.clauses 𝓛 mem run) (drawing.set_range.spec 𝓛 mem run)
    pub clear-range : Once 𝓤 𝓛 drawing.clear_range.ended (drawing.clear_range.clauses 𝓛 mem run) (drawing.clear_range.spec 𝓛 mem run)
    pub set-repeat : Once 𝓤 𝓛 drawing.set_repeat.ended (drawing.set_repeat.clauses 𝓛 mem run) (drawing.set_repeat.spec 𝓛 mem run)
    pub remove-cc-on-note : Once 𝓤 𝓛 reserving.remove_cc_on_note.ended (reserving.remove_cc_on_note.clauses 𝓛 mem run) (reserving.remove_cc_on_note.spec 𝓛 mem run)
    pub remove-cc-on-note-wave : Once 𝓤 𝓛 reserving.remove_cc_on_note_wave.ended (reserving.remove_cc_on_note_wave.clauses 𝓛 mem run) (reserving.remove_cc_on_note_wave.spec 𝓛 mem run)

  pub of-track : OfTrack
  of-track =
      record {
        new = record { met = refl; once = λ o. same 𝓤 _ _ _ _ _ refl };
        set-timepos = record { met = refl; once = λ o. same 𝓤 _ _ _ _ _ refl };
        set-channel = record { met = refl; once = λ o. same 𝓤 _ _ _ _ _ refl };
        set-cc-on-time-freq = record { met = refl; once = λ o. same 𝓤 _ _ _ _ _ refl };
        set-pb-on-time-freq = record { met = refl; once = λ o. same 𝓤 _ _ _ _ _ refl };
        calc-v-on-time = record { met = refl; once = λ o. same 𝓤 _ _ _ _ _ refl };
        calc-t-on-time = record { met = refl; once = λ o. same 𝓤 _ _ _ _ _ refl };
        calc-qlen-on-time = record { met = refl; once = λ o. same 𝓤 _ _ _ _ _ refl };
        calc-o-on-time = record { met = refl; once = λ o. same 𝓤 _ _ _ _ _ refl };
        calc-l-on-time = record { met = refl; once = λ o. same 𝓤 _ _ _ _ _ refl };
        calc-v-on-note = record { met = refl; once = λ o. same 𝓤 _ _ _ _ _ refl };
        calc-t-on-note = record { met = refl; once = λ o. same 𝓤 _ _ _ _ _ refl };
        calc-qlen-on-note = record { met = refl; once = λ o. same 𝓤 _ _ _ _ _ refl };
        calc-o-on-note = record { met = refl; once = λ o. same 𝓤 _ _ _ _ _ refl };
        calc-l-on-note = record { met = refl; once = λ o. same 𝓤 _ _ _ _ _ refl };
        set-v-sub = record { met = refl; once = λ o. same 𝓤 _ _ _ _ _ refl };
        set-v-sub-random = record { met = refl; once = λ o. same 𝓤 _ _ _ _ _ refl };
        set-v-sub-on-time = record { met = refl; once = λ o. same 𝓤 _ _ _ _ _ refl };
        set-v-sub-on-cycle = record { met = refl; once = λ o. same 𝓤 _ _ _ _ _ refl };
        set-v-sub-on-note = record { met = refl; once = λ o. same 𝓤 _ _ _ _ _ refl };
        apply-v-sub = record { met = refl; once = λ o. same 𝓤 _ _ _ _ _ refl };
        set-param-on-time = record { met = refl; once = λ o. same 𝓤 _ _ _ _ _ refl };
        set-param-on-cycle = record { met = refl; once = λ o. same 𝓤 _ _ _ _ _ refl };
        set-param-on-note = record { met = refl; once = λ o. same 𝓤 _ _ _ _ _ refl };
        clear-param-reserve = record { met = refl; once = λ o. same 𝓤 _ _ _ _ _ refl };
        set-param-random = record { met = refl; once = λ o. same 𝓤 _ _ _ _ _ refl };
        set-param-range = record { met = refl; once = λ o. same 𝓤 _ _ _ _ _ refl };
        clear-param-range = record { met = refl; once = λ o. same 𝓤 _ _ _ _ _ refl };
        set-param-delay = record { met = refl; once = λ o. same 𝓤 _ _ _ _ _ refl };
        set-param-max = record { met = refl; once = λ o. same 𝓤 _ _ _ _ _ refl };
        clear-param-max = record { met = refl; once = λ o. same 𝓤 _ _ _ _ _ refl };
        set-param-repeat = record { met = refl; once = λ o. same 𝓤 _ _ _ _ _ refl };
        get-write-opt = record { met = refl; once = λ o. same 𝓤 _ _ _ _ _ refl };
        set-delay = record { met = refl; once = λ o. same 𝓤 _ _ _ _ _ refl };
        set-random = record { met = refl; once = λ o. same 𝓤 _ _ _ _ _ refl };
        set-range = record { met = refl; once = λ o. same 𝓤 _ _ _ _ _ refl };
        clear-range = record { met = refl; once = λ o. same 𝓤 _ _ _ _ _ refl };
        set-repeat = record { met = refl; once = λ o. same 𝓤 _ _ _ _ _ refl };
        remove-cc-on-note = record { met = refl; once = λ o. same 𝓤 _ _ _ _ _ refl };
        remove-cc-on-note-wave = record { met = refl; once = λ o. same 𝓤 _ _ _ _ _ refl };
      }

  -- ---- a parameter
  pub record OfParam : Type 2 where
    pub new : Once 𝓤 𝓛 params.NoteParam.new.ended (params.NoteParam.new.clauses 𝓛 mem run) (params.NoteParam.new.spec 𝓛 mem run)
    pub clear-reserve : Once 𝓤 𝓛 params.NoteParam.clear_reserve.ended (params.NoteParam.clear_reserve.clauses 𝓛 mem run) (params.NoteParam.clear_reserve.spec 𝓛 mem run)
    pub set-on-time : Once 𝓤 𝓛 params.NoteParam.set_on_time.ended (params.NoteParam.set_on_time.clauses 𝓛 mem run) (params.NoteParam.set_on_time.spec 𝓛 mem run)
    pub set-on-cycle : Once 𝓤 𝓛 params.NoteParam.set_on_cycle.ended (params.NoteParam.set_on_cycle.clauses 𝓛 mem run) (params.NoteParam.set_on_cycle.spec 𝓛 mem run)
    pub set-on-note : Once 𝓤 𝓛 params.NoteParam.set_on_note.ended (params.NoteParam.set_on_note.clauses 𝓛 mem run) (params.NoteParam.set_on_note.spec 𝓛 mem run)
    pub calc-on-time : Once 𝓤 𝓛 params.NoteParam.calc_on_time.ended (params.NoteParam.calc_on_time.clauses 𝓛 mem run) (params.NoteParam.calc_on_time.spec 𝓛 mem run)
    pub calc-on-note : Once 𝓤 𝓛 params.NoteParam.calc_on_note.ended (params.NoteParam.calc_on_note.clauses 𝓛 mem run) (params.NoteParam.calc_on_note.spec 𝓛 mem run)
    pub has-reserve : Once 𝓤 𝓛 params.NoteParam.has_reserve.ended (params.NoteParam.has_reserve.clauses 𝓛 mem run) (params.NoteParam.has_reserve.spec 𝓛 mem run)
    pub apply-limit : Once 𝓤 𝓛 params.NoteParam.apply_limit.ended (params.NoteParam.apply_limit.clauses 𝓛 mem run) (params.NoteParam.apply_limit.spec 𝓛 mem run)
    pub max-or : Once 𝓤 𝓛 params.NoteParam.max_or.ended (params.NoteParam.max_or.clauses 𝓛 mem run) (params.NoteParam.max_or.spec 𝓛 mem run)
    pub set-random : Once 𝓤 𝓛 params.NoteParam.set_random.ended (params.NoteParam.set_random.clauses 𝓛 mem run) (params.NoteParam.set_random.spec 𝓛 mem run)
    pub set-range : Once 𝓤 𝓛 params.NoteParam.set_range.ended (params.NoteParam.set_range.clauses 𝓛 mem run) (params.NoteParam.set_range.spec 𝓛 mem run)
    pub clear-range : Once 𝓤 𝓛 params.NoteParam.clear_range.ended (params.NoteParam.clear_range.clauses 𝓛 mem run) (params.NoteParam.clear_range.spec 𝓛 mem run)
    pub set-delay : Once 𝓤 𝓛 params.NoteParam.set_delay.ended (params.NoteParam.set_delay.clauses 𝓛 mem run) (params.NoteParam.set_delay.spec 𝓛 mem run)
    pub set-max : Once 𝓤 𝓛 params.NoteParam.set_max.ended (params.NoteParam.set_max.clauses 𝓛 mem run) (params.NoteParam.set_max.spec 𝓛 mem run)
    pub clear-max : Once 𝓤 𝓛 params.NoteParam.clear_max.ended (params.NoteParam.clear_max.clauses 𝓛 mem run) (params.NoteParam.clear_max.spec 𝓛 mem run)
    pub set-repeat : Once 𝓤 𝓛 params.NoteParam.set_repeat.ended (params.NoteParam.set_repeat.clauses 𝓛 mem run) (params.NoteParam.set_repeat.spec 𝓛 mem run)

  pub of-param : OfParam
  of-param =
      record {
        new = record { met = refl; once = λ o. same 𝓤 _ _ _ _ _ refl };
        clear-reserve = record { met = refl; once = λ o. same 𝓤 _ _ _ _ _ refl };
        set-on-time = record { met = refl; once = λ o. same 𝓤 _ _ _ _ _ refl };
        set-on-cycle = record { met = refl; once = λ o. same 𝓤 _ _ _ _ _ refl };
        set-on-note = record { met = refl; once = λ o. same 𝓤 _ _ _ _ _ refl };
        calc-on-time = record { met = refl; once = λ o. same 𝓤 _ _ _ _ _ refl };
        calc-on-note = record { met = refl; once = λ o. same 𝓤 _ _ _ _ _ refl };
        has-reserve = record { met = refl; once = λ o. same 𝓤 _ _ _ _ _ refl };
        apply-limit = record { met = refl; once = λ o. same 𝓤 _ _ _ _ _ refl };
        max-or = record { met = refl; once = λ o. same 𝓤 _ _ _ _ _ refl };
        set-random = record { met = refl; once = λ o. same 𝓤 _ _ _ _ _ refl };
        set-range = record { met = refl; once = λ o. same 𝓤 _ _ _ _ _ refl };
        clear-range = record { met = refl; once = λ o. same 𝓤 _ _ _ _ _ refl };
        set-delay = record { met = refl; once = λ o. same 𝓤 _ _ _ _ _ refl };
        set-max = record { met = refl; once = λ o. same 𝓤 _ _ _ _ _ refl };
        clear-max = record { met = refl; once = λ o. same 𝓤 _ _ _ _ _ refl };
        set-repeat = record { met = refl; once = λ o. same 𝓤 _ _ _ _ _ refl };
      }

  -- ---- the layers
  pub record OfLayers : Type 2 where
    pub new : Once 𝓤 𝓛 layers.Layers.new.ended (layers.Layers.new.clauses 𝓛 mem run) (layers.Layers.new.spec 𝓛 mem run)
    pub set-v-sub : Once 𝓤 𝓛 layers.Layers.set_v_sub.ended (layers.Layers.set_v_sub.clauses 𝓛 mem run) (layers.Layers.set_v_sub.spec 𝓛 mem run)
    pub set-v-sub-random : Once 𝓤 𝓛 layers.Layers.set_v_sub_random.ended (layers.Layers.set_v_sub_random.clauses 𝓛 mem run) (layers.Layers.set_v_sub_random.spec 𝓛 mem run)
    pub set-v-sub-on-time : Once 𝓤 𝓛 layers.Layers.set_v_sub_on_time.ended (layers.Layers.set_v_sub_on_time.clauses 𝓛 mem run) (layers.Layers.set_v_sub_on_time.spec 𝓛 mem run)
    pub set-v-sub-on-cycle : Once 𝓤 𝓛 layers.Layers.set_v_sub_on_cycle.ended (layers.Layers.set_v_sub_on_cycle.clauses 𝓛 mem run) (layers.Layers.set_v_sub_on_cycle.spec 𝓛 mem run)
    pub set-v-sub-on-note : Once 𝓤 𝓛 layers.Layers.set_v_sub_on_note.ended (layers.Layers.set_v_sub_on_note.clauses 𝓛 mem run) (layers.Layers.set_v_sub_on_note.spec 𝓛 mem run)
    pub apply-v-sub : Once 𝓤 𝓛 layers.Layers.apply_v_sub.ended (layers.Layers.apply_v_sub.clauses 𝓛 mem run) (layers.Layers.apply_v_sub.spec 𝓛 mem run)

  pub of-layers : OfLayers
  of-layers =
      record {
        new = record { met = refl; once = λ o. same 𝓤 _ _ _ _ _ refl };
        set-v-sub = record { met = refl; once = λ o. same 𝓤 _ _ _ _ _ refl };
        set-v-sub-random = record { met = refl; once = λ o. same 𝓤 _ _ _ _ _ refl };
        set-v-sub-on-time = record { met = refl; once = λ o. same 𝓤 _ _ _ _ _ refl };
        set-v-sub-on-cycle = record { met = refl; once = λ o. same 𝓤 _ _ _ _ _ refl };
        set-v-sub-on-note = record { met = refl; once = λ o. same 𝓤 _ _ _ _ _ refl };
        apply-v-sub = record { met = refl; once = λ o. same 𝓤 _ _ _ _ _ refl };
      }

  -- ---- the making of events
  pub record OfEvents : Type 2 where
    pub note : Once 𝓤 𝓛 events.Event.note.ended (events.Event.note.clauses 𝓛 mem run) (events.Event.note.spec 𝓛 mem run)
    pub voice : Once 𝓤 𝓛 events.Event.voice.ended (events.Event.voice.clauses 𝓛 mem run) (events.Event.voice.spec 𝓛 mem run)
    pub cc : Once 𝓤 𝓛 events.Event.cc.ended (events.Event.cc.clauses 𝓛 mem run) (events.Event.cc.spec 𝓛 mem run)
    pub pitch-bend : Once 𝓤 𝓛 events.Event.pitch_bend.ended (events.Event.pitch_bend.clauses 𝓛 mem run) (events.Event.pitch_bend.spec 𝓛 mem run)
    pub pitch-bend-range : Once 𝓤 𝓛 events.Event.pitch_bend_range.ended (events.Event.pitch_bend_range.clauses 𝓛 mem run) (events.Event.pitch_bend_range.spec 𝓛 mem run)
    pub meta : Once 𝓤 𝓛 events.Event.meta.ended (events.Event.meta.clauses 𝓛 mem run) (events.Event.meta.spec 𝓛 mem run)
    pub direct-smf : Once 𝓤 𝓛 events.Event.direct_smf.ended (events.Event.direct_smf.clauses 𝓛 mem run) (events.Event.direct_smf.spec 𝓛 mem run)
    pub sysex-raw : Once 𝓤 𝓛 events.Event.sysex_raw.ended (events.Event.sysex_raw.clauses 𝓛 mem run) (events.Event.sysex_raw.spec 𝓛 mem run)
    pub estimated-midi-bytes : Once 𝓤 𝓛 events.Event.estimated_midi_bytes.ended (events.Event.estimated_midi_bytes.clauses 𝓛 mem run) (events.Event.estimated_midi_bytes.spec 𝓛 mem run)

  pub of-events : OfEvents
  of-events =
      record {
        note = record { met = refl; once = λ o. same 𝓤 _ _ _ _ _ refl };
        voice = record { met = refl; once = λ o. same 𝓤 _ _ _ _ _ refl };
        cc = record { met = refl; once = λ o. same 𝓤 _ _ _ _ _ refl };
        pitch-bend = record { met = refl; once = λ o. same 𝓤 _ _ _ _ _ refl };
        pitch-bend-range = record { met = refl; once = λ o. same 𝓤 _ _ _ _ _ refl };
        meta = record { met = refl; once = λ o. same 𝓤 _ _ _ _ _ refl };
        direct-smf = record { met = refl; once = λ o. same 𝓤 _ _ _ _ _ refl };
        sysex-raw = record { met = refl; once = λ o. same 𝓤 _ _ _ _ _ refl };
        estimated-midi-bytes = record { met = refl; once = λ o. same 𝓤 _ _ _ _ _ refl };
      }

  -- ---- other records
  pub record OfRecords : Type 2 where
    pub write-option-new : Once 𝓤 𝓛 values.WriteOption.new.ended (values.WriteOption.new.clauses 𝓛 mem run) (values.WriteOption.new.spec 𝓛 mem run)
    pub budget-new : Once 𝓤 𝓛 budget.Budget.new.ended (budget.Budget.new.clauses 𝓛 mem run) (budget.Budget.new.spec 𝓛 mem run)
    pub on-note-sine-new : Once 𝓤 𝓛 tables.OnNoteSine.new.ended (tables.OnNoteSine.new.clauses 𝓛 mem run) (tables.OnNoteSine.new.spec 𝓛 mem run)
    pub on-cycle-time-new : Once 𝓤 𝓛 reserved.OnCycleTime.new.ended (reserved.OnCycleTime.new.clauses 𝓛 mem run) (reserved.OnCycleTime.new.spec 𝓛 mem run)
    pub cycle-none : Once 𝓤 𝓛 cycles.Cycle.none.ended (cycles.Cycle.none.clauses 𝓛 mem run) (cycles.Cycle.none.spec 𝓛 mem run)
    pub value-range : Once 𝓤 𝓛 numbers.value_range.ended (numbers.value_range.clauses 𝓛 mem run) (numbers.value_range.spec 𝓛 mem run)
    pub on-cycle-time-calc : Once 𝓤 𝓛 reserved.OnCycleTime.calc.ended (reserved.OnCycleTime.calc.clauses 𝓛 mem run) (reserved.OnCycleTime.calc.spec 𝓛 mem run)
    pub refusal-number : Once 𝓤 𝓛 numbers.refusals.Refusal.number.ended (numbers.refusals.Refusal.number.clauses 𝓛 mem run) (numbers.refusals.Refusal.number.spec 𝓛 mem run)
    pub sine-type-from-i : Once 𝓤 𝓛 sines.SineType.from_i.ended (sines.SineType.from_i.clauses 𝓛 mem run) (sines.SineType.from_i.spec 𝓛 mem run)

  pub of-records : OfRecords
  of-records =
      record {
        write-option-new = record { met = refl; once = λ o. same 𝓤 _ _ _ _ _ refl };
        budget-new = record { met = refl; once = λ o. same 𝓤 _ _ _ _ _ refl };
        on-note-sine-new = record { met = refl; once = λ o. same 𝓤 _ _ _ _ _ refl };
        on-cycle-time-new = record { met = refl; once = λ o. same 𝓤 _ _ _ _ _ refl };
        cycle-none = record { met = refl; once = λ o. same 𝓤 _ _ _ _ _ refl };
        value-range = record { met = refl; once = λ o. same 𝓤 _ _ _ _ _ refl };
        on-cycle-time-calc = record { met = refl; once = λ o. facts 𝓤 _ _ _ (λ p q. (said-once _ _ _ p q, refl)) };
        refusal-number = record { met = refl; once = λ o. same 𝓤 _ _ _ _ _ refl };
        sine-type-from-i = record { met = refl; once = λ o. facts 𝓤 _ _ _ (λ p q. (kind-once _ _ _ p q, refl)) };
      }

  -- ---- the event list
  pub record OfList : Type 2 where
    pub remove-pitch-bend-in-range : Once 𝓤 𝓛 eventlist.remove_pitch_bend_in_range.ended (eventlist.remove_pitch_bend_in_range.clauses 𝓛 mem run) (eventlist.remove_pitch_bend_in_range.spec 𝓛 mem run)
    pub events-sort : Once 𝓤 𝓛 sorting.events_sort.ended (sorting.events_sort.clauses 𝓛 mem run) (sorting.events_sort.spec 𝓛 mem run)
    pub split-note-off : Once 𝓤 𝓛 notes.split_note_off.ended (notes.split_note_off.clauses 𝓛 mem run) (notes.split_note_off.spec 𝓛 mem run)
    pub normalize : Once 𝓤 𝓛 notes.normalize.ended (notes.normalize.clauses 𝓛 mem run) (notes.normalize.spec 𝓛 mem run)
    pub play-from : Once 𝓤 𝓛 cutting.play_from.ended (cutting.play_from.clauses 𝓛 mem run) (cutting.play_from.spec 𝓛 mem run)
    pub full-cut : Once 𝓤 𝓛 cutting.full_cut.ended (cutting.full_cut.clauses 𝓛 mem run) (cutting.full_cut.spec 𝓛 mem run)
    pub check-profile : Once 𝓤 𝓛 profile.check_profile.ended (profile.check_profile.clauses 𝓛 mem run) (profile.check_profile.spec 𝓛 mem run)
    pub fit-profile : Once 𝓤 𝓛 profile.fit_profile.ended (profile.fit_profile.clauses 𝓛 mem run) (profile.fit_profile.spec 𝓛 mem run)
    pub read-chunk : Once 𝓤 𝓛 reader.read_chunk.ended (reader.read_chunk.clauses 𝓛 mem run) (reader.read_chunk.spec 𝓛 mem run)
    pub write-chunk : Once 𝓤 𝓛 chunks.write_chunk.ended (chunks.write_chunk.clauses 𝓛 mem run) (chunks.write_chunk.spec 𝓛 mem run)
    pub current-cc-value : Once 𝓤 𝓛 own.current_cc_value.ended (own.current_cc_value.clauses 𝓛 mem run) (own.current_cc_value.spec 𝓛 mem run)

  pub of-list : OfList
  of-list =
      record {
        remove-pitch-bend-in-range = record { met = refl; once = λ o. facts 𝓤 _ _ _ (λ p q. (agree p.0 q.0, ap (λ (l : List ℤ). (l, (tt, (tt, (tt, (tt, tt)))))) (agree p.1 q.1))) };
        events-sort = record { met = refl; once = λ o. facts 𝓤 _ _ _ (λ p q. (agree p.0 q.0, ap (λ (l : List ℤ). (l, (tt, (tt, tt)))) (agree p.1 q.1))) };
        split-note-off = record { met = refl; once = λ o. facts 𝓤 _ _ _ (λ p q. (agree p.0 q.0, ap (λ (l : List ℤ). (tt, (tt, (l, (tt, tt))))) (agree p.1 q.1))) };
        normalize = record { met = refl; once = λ o. facts 𝓤 _ _ _ (λ p q. (agree p.0 q.0, ap (λ (l : List ℤ). (l, (tt, (tt, tt)))) (agree p.1 q.1))) };
        play-from = record { met = refl; once = λ o. facts 𝓤 _ _ _ (λ p q. (agree p.0 q.0, ap (λ (l : List ℤ). (l, (tt, (tt, (tt, tt))))) (agree p.1 q.1))) };
        full-cut = record { met = refl; once = λ o. facts 𝓤 _ _ _ (λ p q. (agree p.0 q.0, ap (λ (l : List ℤ). (l, (tt, (tt, (tt, tt))))) (agree p.1 q.1))) };
        check-profile = record { met = refl; once = λ o. same 𝓤 _ _ _ _ _ refl };
        fit-profile = record { met = refl; once = λ o. facts 𝓤 _ _ _ (λ p q. (agree p.0 q.0, ap (λ (l : List ℤ). (l, (tt, (tt, tt)))) (agree p.1 q.1))) };
        read-chunk = record { met = refl; once = λ o. facts 𝓤 _ _ _ (λ p q. (agree p.0 q.0, ap (λ (l : List ℤ). (tt, (l, (tt, tt)))) (agree p.1 q.1))) };
        write-chunk = record { met = refl; once = λ o. facts 𝓤 _ _ _ (λ p q. (agree p.0 q.0, ap (λ (l : List ℕ). (tt, (tt, (tt, (l, tt))))) (agree p.1 q.1))) };
        current-cc-value = record { met = refl; once = λ o. same 𝓤 _ _ _ _ _ refl };
      }

  -- ---- the writes
  pub record OfWrites : Type 2 where
    pub write-on-time : Once 𝓤 𝓛 drawing.write_on_time.ended (drawing.write_on_time.clauses 𝓛 mem run) (drawing.write_on_time.spec 𝓛 mem run)
    pub write-cc-on-time : Once 𝓤 𝓛 drawing.write_cc_on_time.ended (drawing.write_cc_on_time.clauses 𝓛 mem run) (drawing.write_cc_on_time.spec 𝓛 mem run)
    pub write-pb-on-time : Once 𝓤 𝓛 drawing.write_pb_on_time.ended (drawing.write_pb_on_time.clauses 𝓛 mem run) (drawing.write_pb_on_time.spec 𝓛 mem run)
    pub write-sine : Once 𝓤 𝓛 drawing.write_sine.ended (drawing.write_sine.clauses 𝓛 mem run) (drawing.write_sine.spec 𝓛 mem run)
    pub write-cc-on-note : Once 𝓤 𝓛 noting.write_cc_on_note.ended (noting.write_cc_on_note.clauses 𝓛 mem run) (noting.write_cc_on_note.spec 𝓛 mem run)
    pub write-cc-on-note-wave : Once 𝓤 𝓛 waving.write_cc_on_note_wave.ended (waving.write_cc_on_note_wave.clauses 𝓛 mem run) (waving.write_cc_on_note_wave.spec 𝓛 mem run)
    pub write-cc-on-cycle : Once 𝓤 𝓛 cycling.write_cc_on_cycle.ended (cycling.write_cc_on_cycle.clauses 𝓛 mem run) (cycling.write_cc_on_cycle.spec 𝓛 mem run)

  pub of-writes : OfWrites
  of-writes =
      record {
        write-on-time = record { met = refl; once = λ o. facts 𝓤 _ _ _ (λ p q. (agree p.answer q.answer, ap (λ (l : List ℤ). (tt, (tt, (tt, (tt, (l, (tt, (tt, tt)))))))) (agree p.left q.left))) };
        write-cc-on-time = record { met = refl; once = λ o. facts 𝓤 _ _ _ (λ p q. (agree p.answer q.answer, ap (λ (l : List ℤ). (tt, (tt, (tt, (tt, (l, (tt, (tt, tt)))))))) (agree p.left q.left))) };
        write-pb-on-time = record { met = refl; once = λ o. facts 𝓤 _ _ _ (λ p q. (agree p.answer q.answer, ap (λ (l : List ℤ). (tt, (tt, (tt, (tt, (l, (tt, (tt, tt)))))))) (agree p.left q.left))) };
        write-sine = record { met = refl; once = λ o. facts 𝓤 _ _ _ (λ p q. (agree p.answer q.answer, ap (λ (l : List ℤ). (tt, (tt, (tt, (tt, (tt, (tt, (tt, (tt, (l, (tt, (tt, tt)))))))))))) (agree p.left q.left))) };
        write-cc-on-note = record { met = refl; once = λ o. facts 𝓤 _ _ _ (λ p q. (agree p.0 q.0, ap (λ (l : List ℤ). (tt, (tt, (tt, (l, (tt, tt)))))) (agree p.1 q.1))) };
        write-cc-on-note-wave = record { met = refl; once = λ o. facts 𝓤 _ _ _ (λ p q. (agree p.0 q.0, ap (λ (l : List ℤ). (tt, (tt, (tt, (l, (tt, (tt, tt))))))) (agree p.1 q.1))) };
        write-cc-on-cycle = record { met = refl; once = λ o. facts 𝓤 _ _ _ (λ p q. (agree p.0 q.0, ap (λ (l : List ℤ). (tt, (tt, (tt, (tt, (tt, (l, (tt, tt)))))))) (agree p.1 q.1))) };
      }

  -- ---- the reservations, the table handed by value
  pub record OfReserving : Type 2 where
    pub remove-reserve : Once 𝓤 𝓛 reserving.remove_reserve.ended (reserving.remove_reserve.clauses 𝓛 mem run) (reserving.remove_reserve.spec 𝓛 mem run)
    pub set-on-note : Once 𝓤 𝓛 reserving.set_on_note.ended (reserving.set_on_note.clauses 𝓛 mem run) (reserving.set_on_note.spec 𝓛 mem run)
    pub set-on-note-wave : Once 𝓤 𝓛 reserving.set_on_note_wave.ended (reserving.set_on_note_wave.clauses 𝓛 mem run) (reserving.set_on_note_wave.spec 𝓛 mem run)
    pub set-on-note-sine : Once 𝓤 𝓛 reserving.set_on_note_sine.ended (reserving.set_on_note_sine.clauses 𝓛 mem run) (reserving.set_on_note_sine.spec 𝓛 mem run)
    pub set-on-cycle : Once 𝓤 𝓛 reserving.set_on_cycle.ended (reserving.set_on_cycle.clauses 𝓛 mem run) (reserving.set_on_cycle.spec 𝓛 mem run)
    pub remove-cc-on : Once 𝓤 𝓛 reserving.remove_cc_on.ended (reserving.remove_cc_on.clauses 𝓛 mem run) (reserving.remove_cc_on.spec 𝓛 mem run)
    pub set-cc-on-note : Once 𝓤 𝓛 reserving.set_cc_on_note.ended (reserving.set_cc_on_note.clauses 𝓛 mem run) (reserving.set_cc_on_note.spec 𝓛 mem run)
    pub set-cc-on-note-wave : Once 𝓤 𝓛 reserving.set_cc_on_note_wave.ended (reserving.set_cc_on_note_wave.clauses 𝓛 mem run) (reserving.set_cc_on_note_wave.spec 𝓛 mem run)
    pub set-pb-on-note-wave : Once 𝓤 𝓛 reserving.set_pb_on_note_wave.ended (reserving.set_pb_on_note_wave.clauses 𝓛 mem run) (reserving.set_pb_on_note_wave.spec 𝓛 mem run)
    pub remove-pb-on-note-wave : Once 𝓤 𝓛 reserving.remove_pb_on_note_wave.ended (reserving.remove_pb_on_note_wave.clauses 𝓛 mem run) (reserving.remove_pb_on_note_wave.spec 𝓛 mem run)

  pub of-reserving : OfReserving
  of-reserving =
      record {
        remove-reserve = record { met = refl; once = λ o. same 𝓤 _ _ _ _ _ refl };
        set-on-note = record { met = refl; once = λ o. same 𝓤 _ _ _ _ _ refl };
        set-on-note-wave = record { met = refl; once = λ o. same 𝓤 _ _ _ _ _ refl };
        set-on-note-sine = record { met = refl; once = λ o. same 𝓤 _ _ _ _ _ refl };
        set-on-cycle = record { met = refl; once = λ o. same 𝓤 _ _ _ _ _ refl };
        remove-cc-on = record { met = refl; once = λ o. same 𝓤 _ _ _ _ _ refl };
        set-cc-on-note = record { met = refl; once = λ o. same 𝓤 _ _ _ _ _ refl };
        set-cc-on-note-wave = record { met = refl; once = λ o. same 𝓤 _ _ _ _ _ refl };
        set-pb-on-note-wave = record { met = refl; once = λ o. same 𝓤 _ _ _ _ _ refl };
        remove-pb-on-note-wave = record { met = refl; once = λ o. same 𝓤 _ _ _ _ _ refl };
      }

  -- ---- budget and table lent
  pub record OfLent : Type 2 where
    pub write-on-time : Once 𝓤 𝓛 loans.write_on_time.ended (loans.write_on_time.clauses 𝓛 mem run) (loans.write_on_time.spec 𝓛 mem run)
    pub write-cc-on-time : Once 𝓤 𝓛 loans.write_cc_on_time.ended (loans.write_cc_on_time.clauses 𝓛 mem run) (loans.write_cc_on_time.spec 𝓛 mem run)
    pub write-pb-on-time : Once 𝓤 𝓛 loans.write_pb_on_time.ended (loans.write_pb_on_time.clauses 𝓛 mem run) (loans.write_pb_on_time.spec 𝓛 mem run)
    pub write-sine : Once 𝓤 𝓛 loans.write_sine.ended (loans.write_sine.clauses 𝓛 mem run) (loans.write_sine.spec 𝓛 mem run)
    pub write-cc-on-note : Once 𝓤 𝓛 loans.write_cc_on_note.ended (loans.write_cc_on_note.clauses 𝓛 mem run) (loans.write_cc_on_note.spec 𝓛 mem run)
    pub write-cc-on-note-wave : Once 𝓤 𝓛 loans.write_cc_on_note_wave.ended (loans.write_cc_on_note_wave.clauses 𝓛 mem run) (loans.write_cc_on_note_wave.spec 𝓛 mem run)
    pub write-cc-on-cycle : Once 𝓤 𝓛 lending.write_cc_on_cycle.ended (lending.write_cc_on_cycle.clauses 𝓛 mem run) (lending.write_cc_on_cycle.spec 𝓛 mem run)
    pub remove-reserve : Once 𝓤 𝓛 loans.remove_reserve.ended (loans.remove_reserve.clauses 𝓛 mem run) (loans.remove_reserve.spec 𝓛 mem run)
    pub set-on-note : Once 𝓤 𝓛 loans.set_on_note.ended (loans.set_on_note.clauses 𝓛 mem run) (loans.set_on_note.spec 𝓛 mem run)
    pub set-on-note-wave : Once 𝓤 𝓛 loans.set_on_note_wave.ended (loans.set_on_note_wave.clauses 𝓛 mem run) (loans.set_on_note_wave.spec 𝓛 mem run)
    pub set-on-note-sine : Once 𝓤 𝓛 loans.set_on_note_sine.ended (loans.set_on_note_sine.clauses 𝓛 mem run) (loans.set_on_note_sine.spec 𝓛 mem run)
    pub set-on-cycle : Once 𝓤 𝓛 loans.set_on_cycle.ended (loans.set_on_cycle.clauses 𝓛 mem run) (loans.set_on_cycle.spec 𝓛 mem run)

  pub of-lent : OfLent
  of-lent =
      record {
        write-on-time = record { met = refl; once = λ o. facts 𝓤 _ _ _ (λ p q. (agree p.answer q.answer, ap₂ (λ (b : Budget) (l : List ℤ). (tt, (tt, (tt, (b, (l, (tt, (tt, tt)))))))) (agree p.spent q.spent) (agree p.left q.left))) };
        write-cc-on-time = record { met = refl; once = λ o. facts 𝓤 _ _ _ (λ p q. (agree p.answer q.answer, ap₂ (λ (b : Budget) (l : List ℤ). (tt, (tt, (tt, (b, (l, (tt, (tt, tt)))))))) (agree p.spent q.spent) (agree p.left q.left))) };
        write-pb-on-time = record { met = refl; once = λ o. facts 𝓤 _ _ _ (λ p q. (agree p.answer q.answer, ap₂ (λ (b : Budget) (l : List ℤ). (tt, (tt, (tt, (b, (l, (tt, (tt, tt)))))))) (agree p.spent q.spent) (agree p.left q.left))) };
        write-sine = record { met = refl; once = λ o. facts 𝓤 _ _ _ (λ p q. (agree p.answer q.answer, ap₂ (λ (b : Budget) (l : List ℤ). (tt, (tt, (tt, (tt, (tt, (tt, (tt, (b, (l, (tt, (tt, tt)))))))))))) (agree p.spent q.spent) (agree p.left q.left))) };
        write-cc-on-note = record { met = refl; once = λ o. facts 𝓤 _ _ _ (λ p q. (agree p.answer q.answer, ap₂ (λ (b : Budget) (l : List ℤ). (tt, (tt, (b, (l, (tt, tt)))))) (agree p.spent q.spent) (agree p.left q.left))) };
        write-cc-on-note-wave = record { met = refl; once = λ o. facts 𝓤 _ _ _ (λ p q. (agree p.answer q.answer, ap₂ (λ (b : Budget) (l : List ℤ). (tt, (tt, (b, (l, (tt, (tt, tt))))))) (agree p.spent q.spent) (agree p.left q.left))) };
        write-cc-on-cycle = record { met = refl; once = λ o. facts 𝓤 _ _ _ (λ p q. (agree p.0 q.0, ap₃ (λ (cs : List Cycle) (b : Budget) (l : List ℤ). (tt, (cs, (tt, (b, (l, (tt, tt))))))) (agree p.1 q.1) (agree p.2 q.2) (agree p.3 q.3))) };
        remove-reserve = record { met = refl; once = λ o. facts 𝓤 _ _ _ (λ p q. (agree p.answer q.answer, ap (λ (cs : List Cycle). (tt, (cs, (tt, tt)))) (agree p.left q.left))) };
        set-on-note = record { met = refl; once = λ o. facts 𝓤 _ _ _ (λ p q. (agree p.answer q.answer, ap (λ (cs : List Cycle). (tt, (cs, (tt, (tt, tt))))) (agree p.left q.left))) };
        set-on-note-wave = record { met = refl; once = λ o. facts 𝓤 _ _ _ (λ p q. (agree p.answer q.answer, ap (λ (cs : List Cycle). (tt, (cs, (tt, (tt, (tt, tt)))))) (agree p.left q.left))) };
        set-on-note-sine = record { met = refl; once = λ o. facts 𝓤 _ _ _ (λ p q. (agree p.answer q.answer, ap (λ (cs : List Cycle). (tt, (cs, (tt, (tt, tt))))) (agree p.left q.left))) };
        set-on-cycle = record { met = refl; once = λ o. facts 𝓤 _ _ _ (λ p q. (agree p.answer q.answer, ap (λ (cs : List Cycle). (tt, (cs, (tt, (tt, (tt, tt)))))) (agree p.left q.left))) };
      }
