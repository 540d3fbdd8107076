-- `fields::stands` meets its contract: by the letter, and by what reading the text answers. Assumes nothing.
use Rattle.fields.proofs.Letters.{number-stands, family-stands, bytes-stand, slash-stands, nothing-stands}
use Rattle.fields.proofs.stands.Goals as goal

pub returns-then-letter-eq110 : goal.returns-then-letter-eq110
returns-then-letter-eq110 c = rw c.is_some.ensures (number-stands _ _ c.read_number.result c.if-letter-eq110.true c.read_number.ensures)

pub returns-then-letter-eq70 : goal.returns-then-letter-eq70
returns-then-letter-eq70 c = rw c.is_some-then-letter-eq70.ensures (family-stands _ _ c.family.result c.if-letter-eq70.true c.family.ensures)

pub returns-then-letter-eq66 : goal.returns-then-letter-eq66
returns-then-letter-eq66 c = bytes-stand _ _ _ c.if-letter-eq66.true c.is_bytes.ensures

pub returns-then-letter-eq47 : goal.returns-then-letter-eq47
returns-then-letter-eq47 c = slash-stands _ _ _ c.if-letter-eq47.true c.same.ensures

pub returns : goal.returns
returns c = nothing-stands _ _ c.if-letter-eq110.false c.if-letter-eq70.false c.if-letter-eq66.false c.if-letter-eq47.false
