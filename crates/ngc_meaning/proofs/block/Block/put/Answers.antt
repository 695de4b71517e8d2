use Rattle.std.proofs.Common.{arith, ◌≡◌, Bool, true, false, Option, Some, None, refl, sym, ap, ◌∙◌}
use Rattle.std.specs.Prelude.{◌&&◌, not, is_some}
use Rattle.std.proofs.lemmas.Bool.{and_parts, not-true}
use Rattle.ngc_meaning.specs.Numbers.{small_number}
use Rattle.ngc_meaning.specs.Blocks.{fits_g, with_g, fits_m, with_m, fits_in, with_word}
use Rattle.ngc_meaning.proofs.OneMoreWord.{word, g_fits, g_put, m_fits, m_put, label_fits, label_put, feed_fits, feed_put, speed_fits, speed_put, time_fits, time_put, x_fits, x_put, y_fits, y_put, no_meaning, other_fits, other_put}
use Rattle.ngc_meaning.proofs.block.Block.put.Goals as goal

-- an option that another one took the place of was none
was_none : {X : Type 0} (o : Option X) (none : Bool) → is_some o ≡ not none → none ≡ true → o ≡ None
was_none None none e h = refl
was_none (Some x) true e h = absurd (cc)
was_none (Some x) false e h = absurd (cc)

is_none : {X : Type 0} (o : Option X) (none : Bool) → is_some o ≡ not none → none ≡ not (is_some o)
is_none o true e = rw e refl
is_none o false e = rw e refl

pub returns-in-71-clause-fits : goal.returns-in-71-clause-fits
returns-in-71-clause-fits c =
    let b = c.args.self.now in
    let text = c.args.number.now in
    c.put_g.ensures.fits ∙ ap (λ n. fits_g b n) c.small_number.ensures ∙ sym (g_fits b text) ∙ ap (λ l. fits_in b (word l text)) (sym c.in-71.is)

pub returns-in-71-clause-put : goal.returns-in-71-clause-put
returns-in-71-clause-put c = λ h.
    let b = c.args.self.now in
    let text = c.args.number.now in
    c.put_g.ensures.put h ∙ ap (λ n. with_g (record b { is_empty = c.replace-is_first.new.dest }) n) c.small_number.ensures
    ∙ ap (λ e. with_g (record b { is_empty = e }) (small_number text)) c.replace-is_first.ensures.after
    ∙ g_put b text ∙ ap (λ l. with_word b (word l text)) (sym c.in-71.is)

pub returns-in-77-clause-fits : goal.returns-in-77-clause-fits
returns-in-77-clause-fits c =
    let b = c.args.self.now in
    let text = c.args.number.now in
    c.put_m.ensures.fits ∙ ap (λ n. fits_m b n) c.small_number-in-77.ensures ∙ sym (m_fits b text) ∙ ap (λ l. fits_in b (word l text)) (sym c.in-77.is)

pub returns-in-77-clause-put : goal.returns-in-77-clause-put
returns-in-77-clause-put c = λ h.
    let b = c.args.self.now in
    let text = c.args.number.now in
    c.put_m.ensures.put h ∙ ap (λ n. with_m (record b { is_empty = c.replace-is_first.new.dest }) n) c.small_number-in-77.ensures
    ∙ ap (λ e. with_m (record b { is_empty = e }) (small_number text)) c.replace-is_first.ensures.after
    ∙ m_put b text ∙ ap (λ l. with_word b (word l text)) (sym c.in-77.is)

pub returns-in-78-clause-fits : goal.returns-in-78-clause-fits
returns-in-78-clause-fits c =
    let b = c.args.self.now in
    let text = c.args.number.now in
    ap (λ e. e && c.is_short.result) c.replace-is_first.ensures.value ∙ ap (λ s. b.is_empty && s) c.is_short.ensures ∙ label_fits b text
    ∙ ap (λ l. fits_in b (word l text)) (sym c.in-78.is)

pub returns-in-78-clause-put : goal.returns-in-78-clause-put
returns-in-78-clause-put c = λ _.
    let b = c.args.self.now in
    let text = c.args.number.now in
    ap (λ e. record b { is_empty = e }) c.replace-is_first.ensures.after ∙ label_put b text ∙ ap (λ l. with_word b (word l text)) (sym c.in-78.is)

pub returns-in-70-clause-fits : goal.returns-in-70-clause-fits
returns-in-70-clause-fits c =
    let b = c.args.self.now in
    let text = c.args.number.now in
    ap (λ f. not f && not c.is_negative.result) c.replace.ensures.value ∙ ap (λ n. not b.feed && not n) c.is_negative.ensures ∙ feed_fits b text
    ∙ ap (λ l. fits_in b (word l text)) (sym c.in-70.is)

pub returns-in-70-clause-put : goal.returns-in-70-clause-put
returns-in-70-clause-put c = λ h.
    let b = c.args.self.now in
    let text = c.args.number.now in
    let was : b.feed ≡ false = sym c.replace.ensures.value ∙ not-true c.replace.result (and_parts (not c.replace.result) (not c.is_negative.result) h).0 in
    ap (λ e. record b { is_empty = e; feed = c.replace.new.dest }) c.replace-is_first.ensures.after ∙ ap (λ f. record b { is_empty = false; feed = f }) c.replace.ensures.after
    ∙ feed_put b text was ∙ ap (λ l. with_word b (word l text)) (sym c.in-70.is)

pub returns-in-83-clause-fits : goal.returns-in-83-clause-fits
returns-in-83-clause-fits c =
    let b = c.args.self.now in
    let text = c.args.number.now in
    ap (λ f. not f && not c.is_negative-in-83.result) c.replace-in-83.ensures.value ∙ ap (λ n. not b.speed && not n) c.is_negative-in-83.ensures ∙ speed_fits b text
    ∙ ap (λ l. fits_in b (word l text)) (sym c.in-83.is)

pub returns-in-83-clause-put : goal.returns-in-83-clause-put
returns-in-83-clause-put c = λ h.
    let b = c.args.self.now in
    let text = c.args.number.now in
    let was : b.speed ≡ false = sym c.replace-in-83.ensures.value ∙ not-true c.replace-in-83.result (and_parts (not c.replace-in-83.result) (not c.is_negative-in-83.result) h).0 in
    ap (λ e. record b { is_empty = e; speed = c.replace-in-83.new.dest }) c.replace-is_first.ensures.after ∙ ap (λ f. record b { is_empty = false; speed = f }) c.replace-in-83.ensures.after
    ∙ speed_put b text was ∙ ap (λ l. with_word b (word l text)) (sym c.in-83.is)

pub returns-in-80-clause-fits : goal.returns-in-80-clause-fits
returns-in-80-clause-fits c =
    let b = c.args.self.now in
    let text = c.args.number.now in
    ap (λ f. not f && not c.is_negative-in-80.result) c.replace-in-80.ensures.value ∙ ap (λ n. not b.time && not n) c.is_negative-in-80.ensures ∙ time_fits b text
    ∙ ap (λ l. fits_in b (word l text)) (sym c.in-80.is)

pub returns-in-80-clause-put : goal.returns-in-80-clause-put
returns-in-80-clause-put c = λ h.
    let b = c.args.self.now in
    let text = c.args.number.now in
    let was : b.time ≡ false = sym c.replace-in-80.ensures.value ∙ not-true c.replace-in-80.result (and_parts (not c.replace-in-80.result) (not c.is_negative-in-80.result) h).0 in
    ap (λ e. record b { is_empty = e; time = c.replace-in-80.new.dest }) c.replace-is_first.ensures.after ∙ ap (λ f. record b { is_empty = false; time = f }) c.replace-in-80.ensures.after
    ∙ time_put b text was ∙ ap (λ l. with_word b (word l text)) (sym c.in-80.is)

pub returns-in-88-clause-fits : goal.returns-in-88-clause-fits
returns-in-88-clause-fits c =
    let b = c.args.self.now in
    let text = c.args.number.now in
    is_none c.replace-in-88.result c.is_none.result c.is_none.ensures ∙ ap (λ o. not (is_some o)) c.replace-in-88.ensures.value ∙ x_fits b text
    ∙ ap (λ l. fits_in b (word l text)) (sym c.in-88.is)

pub returns-in-88-clause-put : goal.returns-in-88-clause-put
returns-in-88-clause-put c = λ h.
    let b = c.args.self.now in
    let text = c.args.number.now in
    let was : b.x ≡ None = sym c.replace-in-88.ensures.value ∙ was_none c.replace-in-88.result c.is_none.result c.is_none.ensures h in
    ap (λ e. record b { is_empty = e; x = c.replace-in-88.new.dest }) c.replace-is_first.ensures.after
    ∙ ap (λ o. record b { is_empty = false; x = o }) (c.replace-in-88.ensures.after ∙ ap (λ n. Some n) c.read.ensures)
    ∙ x_put b text was ∙ ap (λ l. with_word b (word l text)) (sym c.in-88.is)

pub returns-in-89-clause-fits : goal.returns-in-89-clause-fits
returns-in-89-clause-fits c =
    let b = c.args.self.now in
    let text = c.args.number.now in
    is_none c.replace-in-89.result c.is_none-in-89.result c.is_none-in-89.ensures ∙ ap (λ o. not (is_some o)) c.replace-in-89.ensures.value ∙ y_fits b text
    ∙ ap (λ l. fits_in b (word l text)) (sym c.in-89.is)

pub returns-in-89-clause-put : goal.returns-in-89-clause-put
returns-in-89-clause-put c = λ h.
    let b = c.args.self.now in
    let text = c.args.number.now in
    let was : b.y ≡ None = sym c.replace-in-89.ensures.value ∙ was_none c.replace-in-89.result c.is_none-in-89.result c.is_none-in-89.ensures h in
    ap (λ e. record b { is_empty = e; y = c.replace-in-89.new.dest }) c.replace-is_first.ensures.after
    ∙ ap (λ o. record b { is_empty = false; y = o }) (c.replace-in-89.ensures.after ∙ ap (λ n. Some n) c.read-in-89.ensures)
    ∙ y_put b text was ∙ ap (λ l. with_word b (word l text)) (sym c.in-89.is)

pub returns-in_default-clause-fits : goal.returns-in_default-clause-fits
returns-in_default-clause-fits c =
    let l = c.args.letter in
    other_fits c.args.self.now l c.args.number.now (no_meaning l (omega arith) (omega arith) (omega arith) (omega arith) (omega arith) (omega arith) (omega arith) (omega arith))

pub returns-in_default-clause-put : goal.returns-in_default-clause-put
returns-in_default-clause-put c = λ _.
    let b = c.args.self.now in
    let l = c.args.letter in
    ap (λ e. record b { is_empty = e; unknown = true }) c.replace-is_first.ensures.after
    ∙ other_put b l c.args.number.now (no_meaning l (omega arith) (omega arith) (omega arith) (omega arith) (omega arith) (omega arith) (omega arith) (omega arith))
