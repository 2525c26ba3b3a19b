-- The text of a number is the text of a tenth of it with one digit behind (`decimal-more`).
use Rattle.std.proofs.Common.{ℕ, ◌+◌, ◌/◌, ◌%◌, List, [], ◌∷◌, length, sym, ap, ◌∙◌, arith, length-append}
use Rattle.text.specs.Decimals.{decimal}
use Rattle.text.specs.Laying.{laid}
use Rattle.text.proofs.Digits.{decimal_digit, decimal-more, decimal-long}
use Rattle.text.proofs.Laying.{put-behind}
use Rattle.text.proofs.decimal.+put_decimal.Goals as goal

pub returns-then-n-lt10 : goal.returns-then-n-lt10
returns-then-n-lt10 t c =
    let b = c.put_byte.ensures in
    let a = c.args in
    let e = ap (λ (d : ℕ). d ∷ []) c.glyph.ensures ∙ sym (decimal_digit a.n c.if-n-lt10.true) in
    (b.0 ∙ ap (λ (x : List ℕ). laid a.at x a.out.now) e, b.1 ∙ ap (λ (x : List ℕ). a.at + length x) e, omega (arith, b.1))

pub put_byte-requires-else-n-lt10 : goal.put_byte-requires-else-n-lt10
put_byte-requires-else-n-lt10 t c =
    let n = c.args.n in
    let more = decimal-more n c.if-n-lt10.false c.ranges.n.fits in
    let e = ap length more ∙ length-append (decimal (n / 10)) ((48 + n % 10) ∷ []) in
    omega (arith, decimal-long n)

pub returns-else-n-lt10 : goal.returns-else-n-lt10
returns-else-n-lt10 t c =
    let b = c.put_byte-else-n-lt10.ensures in
    let q = c.put_decimal-p.ensures in
    let a = c.args in
    let n = a.n in
    let more = sym (decimal-more n c.if-n-lt10.false c.ranges.n.fits) in
    let w = put-behind a.at a.out.now (decimal (n / 10)) ((48 + n % 10) ∷ []) (omega arith) q.0 q.1 (rw c.glyph-else-n-lt10.ensures at b.0) b.1 in
    let k = w.1 ∙ ap (λ (x : List ℕ). a.at + length x) more in
    (w.0 ∙ ap (λ (x : List ℕ). laid a.at x a.out.now) more, k, omega (arith, k, decimal-long n))
