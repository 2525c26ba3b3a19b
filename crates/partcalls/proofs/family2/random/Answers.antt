-- `random`: numbers of 32 bits are small enough to be moved.
use Rattle.std.proofs.Common.{◌∙◌, sym, w64, to_z, of_z}
use Rattle.script.proofs.Asking.{held}
use Rattle.partcalls.proofs.Words.{word_small}
use Rattle.partcalls.proofs.family2.random.Goals as goal

pub calc_rand_value-r-requires : goal.calc_rand_value-r-requires
calc_rand_value-r-requires c =
    let a = c.args in (
      word_small (to_z w64 (of_z w64 a.value)) (sym c.is_word.ensures ∙ held c.is_word.result _ c.in_ok-ask.ensures),
      word_small (to_z w64 (of_z w64 a.width)) (sym c.is_word-2.ensures ∙ held c.is_word-2.result _ c.in_ok-ask-2.ensures),
    )
