-- The keyed digest HMAC-SHA-256, and the token that vouches for a user's name.
-- RFC 2104, section 2, decides, over the SHA-256 of FIPS 180-4. The token, its hex text, is this server's own choice.
use Rattle.std.specs.Prelude.{ℕ, ◌-◌, List, ◌++◌, length, map, replicate, bit_xor, nat_le, if◌then◌else◌}
use Rattle.sha2.specs.Sha256.{sha256}
use Rattle.hex.specs.Hex.{encode_lower}

-- the bytes, with zeros after them up to a block of 64
abbrev pub zero_filled : List ℕ → List ℕ
zero_filled bytes = bytes ++ replicate (64 - length bytes) 0

-- the key as one block: a key that is longer than a block is hashed first
abbrev pub key_block : List ℕ → List ℕ
key_block key = zero_filled (if nat_le (length key) 64 then key else sha256 key)

-- the key's block, each byte of it xored with the pad's
abbrev pub padded_key : ℕ → List ℕ → List ℕ
padded_key pad key = map (λ b. bit_xor b pad) (key_block key)

-- H(K XOR opad, H(K XOR ipad, text)), where ipad is the byte 0x36 and opad 0x5C
abbrev pub hmac_sha256 : List ℕ → List ℕ → List ℕ
hmac_sha256 key text = sha256 (padded_key 0x5c key ++ sha256 (padded_key 0x36 key ++ text))

-- the token of a user under the server's secret: in lower-case hex, the HMAC of the name alone
abbrev pub token_of : List ℕ → List ℕ → List ℕ
token_of secret name = encode_lower (hmac_sha256 secret name)
