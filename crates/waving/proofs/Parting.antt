-- No target has two reservations, so all windows may be taken out before any event is added: no window reaches what the others add.
--     parted    one after the other leaves what the passes leave
use mathlib.Core.Path.{◌≡◌, refl, sym, ap, ap₂, ◌∙◌}
use mathlib.Core.Bool.{Bool, true, false, cond, not, true≢false}
use mathlib.Core.List.{List, [], ◌∷◌, ◌++◌, map, append_assoc, append-nil}
use Prim.Native.Nat.{ℕ, ◌<◌}
use lib.Dec.{eqb}
use lib.IntN.{pos, ◌+ℤ◌}
use lib.Signed.{le_z, lt_z}
use Rattle.laws.specs.Integers.{eq_z}
use Rattle.laws.specs.Lists.{all, unless, without}
use Rattle.laws.specs.Keys.{absent, distinct}
use Rattle.laws.proofs.Ranges.{left, right}
use Rattle.budget.specs.declared.Budget.{Budget}
use Rattle.budget.specs.Budgets.{step_budget}
use Rattle.events.specs.declared.Event.{Event}
use Rattle.eventlist.specs.declared.Window.{Window}
use Rattle.eventlist.specs.Windows.{taken_by}
use Rattle.values.specs.declared.Write.{Write}
use Rattle.values.specs.Value.{start_of}
use Rattle.offers.specs.Pieces.{total}
use Rattle.writing.specs.Calls.{window_of, kept_events}
use Rattle.writing.specs.Targets.{belongs, key_of}
use Rattle.writing.proofs.Every.{Each, each-weaker}
use Rattle.writing.proofs.Promises.{in_window}
use Rattle.writing.proofs.Orders.{apart}
use Rattle.cycles.specs.Due.{key}
use Rattle.waving.specs.Drawings.{Drawing}
use Rattle.waving.specs.Calls.{Stand, leaves, drawn, drawn_all}
use Rattle.waving.specs.Passes.{Passes, no_pass, pass_first, passes, window_at, news_of, without_all}
use Rattle.waving.proofs.Clearing.{all_append}

-- ---- lists
each_of : {A : Type 0} (p : A → Bool) (l : List A) → all p l ≡ true → Each (λ (x : A). p x ≡ true) l
unfolding all
each_of p [] e = tt
each_of p (x ∷ l) e = (left (p x) (all p l) e, each_of p l (right (p x) (all p l) e))

without-keep : {A : Type 0} (p : A → Bool) (l : List A) → Each (λ (x : A). p x ≡ false) l → without p l ≡ l
without-keep p [] h = refl
without-keep {A} p (x ∷ l) h = ap (λ (t : Bool). unless t x (without p l)) h.0 ∙ ap (λ (y : List A). x ∷ y) (without-keep p l h.1)

-- ---- targets
abbrev pub key_at : Drawing → ℕ
key_at d = key d.write.target

-- a drawing that has a frequency, and a target
pub record Placed (d : Drawing) : Type 0 where
  pub some : 0 < d.write.freq
  pub aimed : key_of d.write.target ≡ pos (key_at d)

pub record Lone (ds : List Drawing) : Type 0 where
  pub placed : Each Placed ds
  pub once : distinct (map key_at ds) ≡ true

-- what a window takes is its target's
mine : (w : Write) (long : ℕ) (e : Event) → taken_by (window_of w long) e ≡ true → belongs w.target e ≡ true
unfolding taken_by window_of belongs
mine w long e h = left _ (le_z (start_of w) e.time) (left _ (lt_z e.time (start_of w +ℤ pos long)) h)

-- a window spares what is another target's
abbrev Spares : Drawing → Window → Type 0
Spares d w = (e : Event) → belongs d.write.target e ≡ true → taken_by w e ≡ false

spare : (d u : Drawing) (b : Budget) → Placed d → Placed u → eqb (key_at d) (key_at u) ≡ false → Spares d (window_at u b)
spare d u b p q k e h = go (taken_by (window_at u b) e) refl
  where
    differ : eq_z (key_of d.write.target) (key_of u.write.target) ≡ false
    differ = ap₂ eq_z p.aimed q.aimed ∙ k

    go : (t : Bool) → taken_by (window_at u b) e ≡ t → t ≡ false
    go true g = absurd (true≢false (sym h ∙ apart d.write.target u.write.target e differ (mine u.write (total (u.pieces b)) e g)))
    go false g = refl

not-eq : (m n : ℕ) → not (eqb m n) ≡ true → eqb m n ≡ false
not-eq m n e = go (eqb m n) e
  where
    go : (t : Bool) → not t ≡ true → t ≡ false
    go true q = absurd (true≢false (sym q))
    go false q = refl

-- and so do those of all that come after
spares : (d : Drawing) (ds : List Drawing) (b : Budget) → Placed d → Each Placed ds → absent (key_at d) (map key_at ds) ≡ true → Each (Spares d) (passes ds b).windows
unfolding passes absent all
spares d [] b p q k = tt
spares d (u ∷ ds) b p q k =
    go (eqb b.over 0) (spares d ds (leaves u b) p q.1 (right (not (eqb (key_at d) (key_at u))) (absent (key_at d) (map key_at ds)) k))
  where
    here : Spares d (window_at u b)
    here = spare d u b p q.0 (not-eq (key_at d) (key_at u) (left (not (eqb (key_at d) (key_at u))) (absent (key_at d) (map key_at ds)) k))

    go : (t : Bool) → Each (Spares d) (passes ds (leaves u b)).windows → Each (Spares d) (cond t (pass_first u b (passes ds (leaves u b))) (no_pass b)).windows
    go true ih = (here, ih)
    go false ih = tt

-- what a drawing adds is its target's
own : (d : Drawing) (b : Budget) → Placed d → Each (λ (e : Event). belongs d.write.target e ≡ true) (news_of d b)
own d b p =
    each-weaker (λ (e : Event). taken_by (window_at d b) e ≡ true) (λ (e : Event). belongs d.write.target e ≡ true) (λ e h. mine d.write (total (d.pieces b)) e h) (news_of d b)
    (each_of (taken_by (window_at d b)) (news_of d b) (in_window d.write b (d.pieces b) (step_budget b) p.some))

-- so that the windows spare it
spared : (d : Drawing) (ws : List Window) (es : List Event) → Each (Spares d) ws → Each (λ (e : Event). belongs d.write.target e ≡ true) es → without_all ws es ≡ es
unfolding without_all
spared d [] es h k = refl
spared d (w ∷ ws) es h k =
    ap (without_all ws) (without-keep (taken_by w) es (each-weaker (λ (e : Event). belongs d.write.target e ≡ true) (λ (e : Event). taken_by w e ≡ false) h.0 es k))
    ∙ spared d ws es h.1 k

rest-lone : (d : Drawing) (ds : List Drawing) → Lone (d ∷ ds) → (absent (key_at d) (map key_at ds) ≡ true) × Lone ds
unfolding distinct
rest-lone d ds h = (
  left (absent (key_at d) (map key_at ds)) (distinct (map key_at ds)) h.once,
  record { placed = h.placed.1; once = right (absent (key_at d) (map key_at ds)) (distinct (map key_at ds)) h.once },
)

-- ---- one after the other, or in passes
abbrev pub in_passes : Passes → List Event → Stand
in_passes p es = record { budget = p.budget; events = without_all p.windows es ++ p.news }

nothing : (b : Budget) (es : List Event) → record { budget = b; events = es } ≡ in_passes (no_pass b) es
unfolding without_all
nothing b es = ap (λ (x : List Event). record { budget = b; events = x }) (sym (append-nil es))

pub parted : (ds : List Drawing) → Lone ds → (b : Budget) (es : List Event) → drawn_all ds (record { budget = b; events = es }) ≡ in_passes (passes ds b) es
unfolding drawn_all passes kept_events without_all
parted [] h b es = nothing b es
parted (d ∷ ds) h b es = go (eqb b.over 0) (parted ds (rest-lone d ds h).1 (leaves d b) (without (taken_by (window_at d b)) es ++ news_of d b))
  where
    K : List Event
    K = without (taken_by (window_at d b)) es

    p : Passes
    p = passes ds (leaves d b)

    moved : without_all p.windows (K ++ news_of d b) ++ p.news ≡ without_all p.windows K ++ (news_of d b ++ p.news)
    moved =
        ap (λ (x : List Event). x ++ p.news)
        (all_append p.windows K (news_of d b)
        ∙ ap (λ (x : List Event). without_all p.windows K ++ x)
        (spared d p.windows (news_of d b) (spares d ds (leaves d b) h.placed.0 h.placed.1 (rest-lone d ds h).0) (own d b h.placed.0)))
        ∙ append_assoc (without_all p.windows K) (news_of d b) p.news

    go : (t : Bool) → drawn_all ds (record { budget = leaves d b; events = K ++ news_of d b }) ≡ in_passes p (K ++ news_of d b)
        → cond t (drawn_all ds (drawn d (record { budget = b; events = es }))) (record { budget = b; events = es }) ≡ in_passes (cond t (pass_first d b p) (no_pass b)) es
    go true ih = ih ∙ ap (λ (x : List Event). record { budget = p.budget; events = x }) moved
    go false ih = nothing b es
