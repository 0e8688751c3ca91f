-- How long a line can be.
use Rattle.std.proofs.Common.{◌≡◌, ℕ, ◌+◌, ◌*◌, ◌^◌, ◌<◌, ◌≤◌, List, [], ◌∷◌, ◌++◌, length, Some, None, Option, sym, refl, subst, arith}
use Rattle.std.specs.Option.{ForSome}
use Rattle.std.specs.List.{flat_map}
use Rattle.std.proofs.lemmas.List.{length-append}
use Rattle.line_text.specs.declared.line.Asked.{Asked}
use Rattle.line_text.specs.declared.line.Asked.TheVariants.{Request, Done}
use Rattle.line_text.specs.declared.line.Line.{Line}
use Rattle.line_text.specs.declared.line.Line.TheVariants.{Plan, Bin, Tick, TickRefused, Answer, End, FileRefused, RowRefused, Refused}
use Rattle.line_text.specs.Decimals.{digits}
use Rattle.line_text.specs.Texts.{field, entry, called, answered, ended, Short}
use Rattle.line_text.proofs.Spelled.{few_digits}

-- the numbers fit the types of their fields
abbrev pub Typed : Line → Type 0
Typed (Plan slot bins) = (slot < 2 ^ 32) × (bins < 2 ^ 8)
Typed (Bin bin load reserve) = (bin < 2 ^ 8) × (load < 2 ^ 32) × (reserve < 2 ^ 32)
Typed (Tick clock row) = (clock < 2 ^ 32) × (length (flat_map entry row.now) ≤ 4 * length row.now)
Typed (TickRefused n) = n < 2 ^ 8
Typed (Answer asked task refusal) = (task < 2 ^ 8) × ForSome refusal (λ n. n < 2 ^ 8)
Typed (End clock) = clock < 2 ^ 32
Typed (FileRefused n at) = (n < 2 ^ 8) × (at < 2 ^ 64)
Typed (RowRefused n row) = (n < 2 ^ 8) × (row < 2 ^ 64)
Typed (Refused n) = n < 2 ^ 8

two_long : (x y : List ℕ) → length (ended (x ∷ y ∷ [])) ≡ length x + length y + 1
two_long x y = omega (arith, length-append x (y ++ 10 ∷ []), length-append y (10 ∷ []))

one_long : (x : List ℕ) → length (ended (x ∷ [])) ≡ length x + 1
one_long x = length-append x (10 ∷ [])

byte : (n : ℕ) → n < 2 ^ 8 → length (digits n) ≤ 3
byte n h = few_digits 3 n (omega arith) (omega arith)

word : (n : ℕ) → n < 2 ^ 32 → length (digits n) ≤ 10
word n h = few_digits 10 n (omega arith) (omega arith)

place : (n : ℕ) → n < 2 ^ 64 → length (digits n) ≤ 20
place n h = few_digits 20 n (omega arith) (omega arith)

called_short : (a : Asked) (task : ℕ) → task < 2 ^ 8 → length (called a task) ≤ 11
called_short Request task h = omega (arith, byte task h)
called_short Done task h = omega (arith, byte task h)

answered_short : (refusal : Option ℕ) → ForSome refusal (λ n. n < 2 ^ 8) → length (answered refusal) ≤ 12
answered_short None h = omega arith
answered_short (Some n) h = omega (arith, byte n (h n refl))

-- the longest has `tick `, ten digits, 16 entries of four bytes and the end
short : (l : Line) → Typed l → Short 80 l
short (Plan slot bins) t h = omega (arith, two_long (field "slot " slot) (field " bins " bins), word slot t.0, byte bins t.1)
short (Bin bin load reserve) t h =
    omega (arith, length-append (field "bin " bin) (ended (field " load " load ∷ field " reserve " reserve ∷ [])), two_long (field " load " load) (field " reserve " reserve), byte bin t.0, word load t.1, word reserve t.2)
short (Tick clock row) t h = omega (arith, two_long (field "tick " clock) (flat_map entry row.now), word clock t.0, t.1)
short (TickRefused n) t h = omega (arith, one_long (field "tick refused " n), byte n t)
short (Answer asked task refusal) t h = omega (arith, two_long (called asked task) (answered refusal), called_short asked task t.0, answered_short refusal t.1)
short (End clock) t h = omega (arith, one_long (field "end " clock), word clock t)
short (FileRefused n at) t h = omega (arith, two_long (field "refused " n) (field " at " at), byte n t.0, place at t.1)
short (RowRefused n row) t h = omega (arith, two_long (field "refused " n) (field " at row " row), byte n t.0, place row t.1)
short (Refused n) t h = omega (arith, one_long (field "refused " n), byte n t)

pub short_as : {l k : Line} → l ≡ k → Typed k → Short 80 l
short_as {l} {k} is t = subst (Short 80) (sym is) (short k t)
