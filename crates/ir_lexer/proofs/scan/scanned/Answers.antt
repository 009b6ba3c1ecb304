use Rattle.ir_lexer.proofs.Common.{refl, front_token}
use Rattle.ir_lexer.proofs.scan.scanned.Goals as goal

pub returns : goal.returns
unfolding front_token
returns c =
    rw (
      c.longer.ensures,
      c.longer-found-12.ensures,
      c.longer-found-11.ensures,
      c.longer-found-10.ensures,
      c.longer-found-9.ensures,
      c.longer-found-8.ensures,
      c.longer-found-7.ensures,
      c.longer-found-6.ensures,
      c.longer-found-5.ensures,
      c.longer-found-4.ensures,
      c.longer-found-3.ensures,
      c.longer-found-2.ensures,
      c.longer-found.ensures,
      c.after_mark.ensures.value,
      c.after_word.ensures.value,
      c.after_number.ensures.value,
      c.after_named.ensures.value,
      c.after_named-2.ensures.value,
      c.after_named-3.ensures.value,
      c.after_tagged.ensures.value,
      c.after_tagged-2.ensures.value,
      c.after_caret.ensures.value,
      c.after_label.ensures.value,
      c.after_float.ensures.value,
      c.after_hexadecimal.ensures.value,
      c.after_string.ensures.value,
    ) refl
