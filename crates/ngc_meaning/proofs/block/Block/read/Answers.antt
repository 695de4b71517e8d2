use Rattle.std.proofs.Common.{ℕ, List, ◌-◌, length, get_or, take, drop, sym, ap, subst, ◌∙◌}
use Rattle.std.specs.Prelude.{is_some}
use Rattle.micron_decimals.specs.Decimals.{plain_of}
use Rattle.code_moves.specs.Words.{Word}
use Rattle.ngc_meaning.specs.Blocks.{fits_in, with_word}
use Rattle.ngc_meaning.proofs.ReadWords.{WordsSoFar, no_fit, word_more, by_first, next_is}
use Rattle.ngc_meaning.proofs.block.Block.read.Goals as goal

pub returns-then-not-put : goal.returns-then-not-put
returns-then-not-put c =
    let rest = c.words.rest.now in
    let letter = get_or rest 0 0 in
    let behind = take (length rest - 1) (drop 1 rest) in
    let word = next_is letter c.to_ascii_uppercase.result c.next_letter.result behind c.split_at.result.0.now c.to_ascii_uppercase.ensures.value c.next_letter.ensures.place c.split_at.ensures.front in
    no_fit c.args.text.now rest c.words.block letter behind c.words.invariant (by_first rest c.in-len1-up.len_at_least)
    (sym c.is_ascii_alphabetic.ensures.value ∙ c.if-not-is_ascii_alphabetic.false)
    (ap (fits_in c.words.block) (sym word) ∙ sym c.put.ensures.fits ∙ c.if-not-put.true)

pub words-preserved : goal.words-preserved
words-preserved c =
    let rest = c.words.rest.now in
    let letter = get_or rest 0 0 in
    let behind = take (length rest - 1) (drop 1 rest) in
    let word = next_is letter c.to_ascii_uppercase.result c.next_letter.result behind c.split_at.result.0.now c.to_ascii_uppercase.ensures.value c.next_letter.ensures.place c.split_at.ensures.front in
    subst (λ (r : List ℕ). WordsSoFar c.args.text.now r c.put.new.self) (ap (λ n. drop n behind) (sym c.next_letter.ensures.place) ∙ sym c.split_at.ensures.back)
    (word_more c.args.text.now rest c.words.block c.put.new.self letter behind c.words.invariant (by_first rest c.in-len1-up.len_at_least)
    (sym c.is_ascii_alphabetic.ensures.value ∙ c.if-not-is_ascii_alphabetic.false)
    (ap (λ (w : Word). is_some (plain_of w.number)) (sym word) ∙ sym c.is_plain.ensures ∙ c.if-not-is_plain.false)
    (ap (fits_in c.words.block) (sym word) ∙ sym c.put.ensures.fits ∙ c.if-not-put.false)
    (c.put.ensures.put c.if-not-put.false ∙ ap (with_word c.words.block) word))
