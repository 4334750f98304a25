use Rattle.std.proofs.Common.{refl}
use Rattle.std.specs.Fmt.{digits}
use Rattle.couch_http.specs.Reply.{status_line, type_line, length_line, close_line}
use Rattle.couch_http.proofs.response.Response.fixed.Goals as goal

pub returns-in-Syntax : goal.returns-in-Syntax
unfolding digits status_line type_line length_line close_line
returns-in-Syntax c = rw (c.from_text.ensures, c.in-Syntax.is) refl

pub returns-in-Encoding : goal.returns-in-Encoding
unfolding digits status_line type_line length_line close_line
returns-in-Encoding c = rw (c.from_text-in-Encoding.ensures, c.in-Encoding.is) refl

pub returns-in-TooLarge : goal.returns-in-TooLarge
unfolding digits status_line type_line length_line close_line
returns-in-TooLarge c = rw (c.from_text-in-TooLarge.ensures, c.in-TooLarge.is) refl

pub returns-in-Store-true : goal.returns-in-Store-true
unfolding digits status_line type_line length_line close_line
returns-in-Store-true c = rw (c.from_text-in-Store-true.ensures, c.in-Store-true.is, c.in-Store-true.last-test) refl

pub returns-in-Store-false : goal.returns-in-Store-false
unfolding digits status_line type_line length_line close_line
returns-in-Store-false c = rw (c.from_text-in-Store-false.ensures, c.in-Store-false.is, c.in-Store-false.last-test) refl

pub returns-in-NoRoom-true : goal.returns-in-NoRoom-true
unfolding digits status_line type_line length_line close_line
returns-in-NoRoom-true c = rw (c.from_text-in-NoRoom-true.ensures, c.in-NoRoom-true.is, c.in-NoRoom-true.last-test) refl

pub returns-in-NoRoom-false : goal.returns-in-NoRoom-false
unfolding digits status_line type_line length_line close_line
returns-in-NoRoom-false c = rw (c.from_text-in-NoRoom-false.ensures, c.in-NoRoom-false.is, c.in-NoRoom-false.last-test) refl
