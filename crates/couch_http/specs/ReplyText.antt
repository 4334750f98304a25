-- Where a reply of the program has its bytes.
use Rattle.std.specs.Prelude.{ℕ, ◌≤◌, List, length, drop}
use Rattle.std.specs.String.{string_bytes}
use Rattle.couch_http.specs.Reply.{Reply}
use Rattle.couch_http.specs.declared.response.ReplyText.{ReplyText}
use Rattle.couch_http.specs.declared.response.ReplyText.TheVariants.{Made, Fixed, Read}
use Rattle.couch_http.specs.declared.response.Response.TheInside.{Inside}

abbrev pub text_bytes : ReplyText → List ℕ
text_bytes (Made text) = string_bytes text
text_bytes (Fixed text) = text.now
text_bytes (Read bytes) = bytes.items

-- the body is what stands behind the head
abbrev pub seen_reply : Inside → Reply
seen_reply r = record { status = r.status; body = drop r.head_len (text_bytes r.text); bytes = text_bytes r.text }

abbrev pub HasHead : Inside → Type 0
HasHead r = r.head_len ≤ length (text_bytes r.text)
