-- A chunk's body read as Standard MIDI Files 1.0 has it and as 02, e) asks, over what becomes of a message: `make` is handed a message's status,
-- its time and its two data bytes, the second 0 where it has none, and says what is kept of it. What reads back what b) writes, and what e)
-- promises, are the same reader with another `make`.
use Rattle.std.specs.Prelude.{Bool, cond, ◌||◌, Option, Some, None, List, [], ◌∷◌, ◌++◌, ℕ, zero, suc, ◌+◌, ◌*◌, ◌/◌, eqb, ltb, leb, length, drop, get_or}
use Rattle.quantities.specs.declared.Quantity.{Quantity}
use Rattle.quantities.specs.Quantities.{quantity_in}

-- four bytes from the front, big end first
abbrev pub big_endian_in : List ℕ → ℕ
big_endian_in l = get_or l 0 0 * 16777216 + get_or l 1 0 * 65536 + get_or l 2 0 * 256 + get_or l 3 0

-- what stands at the front: 0 an event, 1 the end of track, 14 or 15 a fault; what is kept of it, the bytes that it takes, the running status
-- behind it (0 where there is none), and its gap
pub record Seen (A : Type 0) : Type 0 where
  pub code : ℕ
  pub kept : List A
  pub used : ℕ
  pub status : ℕ
  pub gap : ℕ

-- the number of the body, 0 where it is well, and what is kept of it
pub record Whole (A : Type 0) : Type 0 where
  pub code : ℕ
  pub kept : List A

-- messages of one data byte: program, and one of the two kinds of aftertouch
unfoldable pub single : ℕ → Bool
single status = eqb (status / 16) 12 || eqb (status / 16) 13

module _ {A : Type 0} where
  abbrev pub seen : ℕ → List A → ℕ → ℕ → ℕ → Seen A
  seen code kept used status gap = record { code = code; kept = kept; used = used; status = status; gap = gap }

  abbrev pub fault : ℕ → Seen A
  fault n = seen n [] 0 0 0

  -- what is said of the quantity at the front; where none stands there it is a fault
  abbrev pub with_quantity : Option Quantity → (Quantity → Seen A) → Seen A
  with_quantity None says = fault 14
  with_quantity (Some n) says = says n

  -- Meta and system exclusive: so many bytes as a quantity says are stepped over; `used` bytes stand before it. They end running status.
  unfoldable pub step_over : ℕ → ℕ → List ℕ → Seen A
  step_over gap used l =
      with_quantity (quantity_in l) (λ n. cond (leb (n.used + n.value) (length l)) (seen 0 [] (used + (n.used + n.value)) 0 gap) (fault 14))

  -- the end of track has no length, and nothing stands behind it
  unfoldable pub end_in : ℕ → ℕ → List ℕ → Seen A
  end_in gap used l =
      with_quantity (quantity_in l)
      (λ n. cond (eqb n.value 0) (cond (eqb n.used (length l)) (seen 1 [] (used + n.used) 0 gap) (fault 15)) (fault 14))

  -- a Meta event from its type on; type 2F is the end of track
  unfoldable pub meta_in : ℕ → ℕ → List ℕ → Seen A
  meta_in gap used [] = fault 14
  meta_in gap used (type ∷ l) = cond (ltb type 128) (cond (eqb type 47) (end_in gap (used + 1) l) (step_over gap (used + 1) l)) (fault 14)

  module _ (make : ℕ → ℕ → ℕ → ℕ → List A) where
    -- the data bytes of a status: the second, and the first
    unfoldable pub second_in : ℕ → ℕ → ℕ → ℕ → ℕ → List ℕ → Seen A
    second_in status time gap used a [] = fault 14
    second_in status time gap used a (b ∷ l) = cond (ltb b 128) (seen 0 (make status time a b) (used + 1) status gap) (fault 14)

    unfoldable pub message_in : ℕ → ℕ → ℕ → ℕ → List ℕ → Seen A
    message_in status time gap used [] = fault 14
    message_in status time gap used (a ∷ l) =
        cond (ltb a 128) (cond (single status) (seen 0 (make status time a 0) (used + 1) status gap) (second_in status time gap (used + 1) a l)) (fault 14)

    -- what stands behind a gap: a data byte under running status, a status of a channel, Meta, system exclusive
    unfoldable pub status_in : ℕ → ℕ → ℕ → ℕ → List ℕ → Seen A
    status_in running time gap used [] = fault 14
    status_in running time gap used (x ∷ l) =
        cond (ltb x 128) (cond (eqb running 0) (fault 14) (message_in running time gap used (x ∷ l)))
        (cond (ltb x 240) (message_in x time gap (used + 1) l)
        (cond (eqb x 255) (meta_in gap (used + 1) l)
        (cond (eqb x 240 || eqb x 247) (step_over gap (used + 1) l)
        (fault 14))))

    -- the event at the front, behind a running status and a time; an end of the input between two events is 15
    unfoldable pub seen_in : ℕ → ℕ → List ℕ → Seen A
    seen_in running time l =
        cond (eqb (length l) 0) (fault 15)
        (with_quantity (quantity_in l) (λ n. status_in running (time + n.value) n.value n.used (drop n.used l)))

    -- event after event, at most k, up to the end of track or the first fault
    unfoldable pub read_from : ℕ → ℕ → ℕ → List ℕ → Whole A
    read_from zero running time l = record { code = 15; kept = [] }
    read_from (suc k) running time l =
        let s = seen_in running time l in
        let r = read_from k s.status (time + s.gap) (drop s.used l) in
        cond (eqb s.code 0) (record { code = r.code; kept = s.kept ++ r.kept })
        (record { code = cond (eqb s.code 1) 0 s.code; kept = [] })

    -- a body, of which there are no more events than bytes
    abbrev pub read_body : List ℕ → Whole A
    read_body l = read_from (length l) 0 0 l
