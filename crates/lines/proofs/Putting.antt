-- Texts put one behind the other, and the lines of a list's events.
--     puts, nothing, behind      one text, none, and one behind another
--     Lines, no_lines, one_line, all_lines   a loop that puts a line for each event
use mathlib.Core.Path.{◌≡◌, refl, ap, sym, ◌∙◌}
use mathlib.Core.List.{List, [], ◌∷◌, ◌++◌, append-nil, append_assoc}
use Prim.Native.Nat.{ℕ, ◌+◌, ◌*◌, ◌≤◌, ◌<◌}
use native.Mathlib.Numerals.{add-one}
use native.Mathlib.Omega.{arith}
use lib.ListN.{length, take, get_or}
use lib.Seq.{take-suc, take-length}
use Rattle.laws.specs.Rows.{flat}
use Rattle.text.specs.Laying.{laid}
use Rattle.text.proofs.Laying.{laid_none, put-behind}
use Rattle.events.specs.declared.Event.{Event}
use Rattle.events.specs.Events.{zero_event}
use Rattle.lines.specs.Puts.{Puts}
use Rattle.lines.specs.Lines.{line_text, line_long}

pub puts : {at next : ℕ} {text before after : List ℕ} → after ≡ laid at text before → next ≡ at + length text → Puts at text before after next
puts w p = record { whole = w; past = p }

pub nothing : (at : ℕ) (o : List ℕ) → Puts at [] o o at
nothing at o = puts (laid_none at o) (omega arith)

pub behind : {at p r : ℕ} {a b o x w : List ℕ} → at ≤ length o → Puts at a o x p → Puts p b x w r → Puts at (a ++ b) o w r
behind {at} {p} {r} {a} {b} {o} h u v =
    let k = put-behind at o a b h u.whole u.past v.whole v.past in
    puts k.0 k.1

flat-more : (es fs : List Event) → flat line_text (es ++ fs) ≡ flat line_text es ++ flat line_text fs
flat-more [] fs = refl
flat-more (e ∷ es) fs = ap (λ (t : List ℕ). line_text e ++ t) (flat-more es fs) ∙ sym (append_assoc (line_text e) (flat line_text es) (flat line_text fs))

-- the first i lines stand at `at`, and p is the place behind them
pub record Lines (at : ℕ) (es : List Event) (o out : List ℕ) (p i : ℕ) : Type 0 where
  pub within : i ≤ length es
  pub long : length out ≡ length o
  pub sofar : Puts at (flat line_text (take i es)) o out p
  pub far : p ≤ at + line_long * i

module _ (at : ℕ) (es : List Event) (o : List ℕ) where
  pub no_lines : Lines at es o o at 0
  no_lines = record { within = omega arith; long = refl; sofar = nothing at o; far = omega arith }

  pub one_line : {out w : List ℕ} {p i r : ℕ} → at ≤ length o → Lines at es o out p i → i < length es → length w ≡ length out → Puts p (line_text (get_or es i zero_event)) out w r → r ≤ p + line_long → Lines at es o w r (i + 1)
  one_line {out} {w} {p} {i} {r} h l k n q f =
      let e = get_or es i zero_event in
      let t : flat line_text (take i es) ++ line_text e ≡ flat line_text (take (i + 1) es) =
      rw (add-one, take-suc es i zero_event k, flat-more (take i es) (e ∷ []), append-nil) in
      record {
        within = omega arith;
        long = n ∙ l.long;
        sofar = rw t at (behind h l.sofar q);
        far = omega (arith, l.far);
      }

  pub all_lines : {out : List ℕ} {p i : ℕ} → length es ≤ i → Lines at es o out p i → Puts at (flat line_text es) o out p
  all_lines {out} {p} {i} k l =
      let e : i ≡ length es = omega (arith, l.within) in
      rw (e, take-length) at l.sofar
