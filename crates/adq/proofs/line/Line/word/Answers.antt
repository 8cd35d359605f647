use Rattle.std.proofs.{Common.{◌∙◌, refl, arith}, lemmas.Bool.Decides.nat_tests}
use Rattle.adq.proofs.FirstWord.{words_of-cut, trimmed, first_word}
use Rattle.adq.proofs.line.Line.word.Goals as goal

pub returns-then-is_empty-clause-words : goal.returns-then-is_empty-clause-words
returns-then-is_empty-clause-words c =
    let m = c.trim_start_matches-text.ensures.matches in
    let w = first_word c.trim_start_matches-text.result.now c.split_once.result _ _ c.unwrap_or.ensures refl refl
    (trimmed _ m.1) c.split_once.ensures.cases in
    words_of-cut _ _ _ m.0.1 ∙ w.0 (grind (arith, nat_tests))

pub returns-else-is_empty-clause-words : goal.returns-else-is_empty-clause-words
returns-else-is_empty-clause-words c =
    let m = c.trim_start_matches-text.ensures.matches in
    let w = first_word c.trim_start_matches-text.result.now c.split_once.result _ _ c.unwrap_or.ensures refl refl
    (trimmed _ m.1) c.split_once.ensures.cases in
    words_of-cut _ _ _ m.0.1 ∙ w.1 (grind (arith, nat_tests))
