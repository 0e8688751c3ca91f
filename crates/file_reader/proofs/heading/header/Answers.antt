use Rattle.std.proofs.Common.{◌≤◌, length, arith, rules}
use Rattle.file_reader.proofs.Spelling.{header_stands, rest_byte}
use Rattle.file_reader.proofs.heading.header.Goals as goal

pub returns-then-not-names_layout : goal.returns-then-not-names_layout
returns-then-not-names_layout c =
    let f = c.args.file.now in
    let l : 8 ≤ length f = search rules in
    let letter = rest_byte f 2 (omega (arith, l)) in
    search rules

pub returns-else-not-names_layout : goal.returns-else-not-names_layout
returns-else-not-names_layout c =
    let f = c.args.file.now in
    let l : 8 ≤ length f = search rules in
    let processors = rest_byte f 0 (omega (arith, l)) in
    let delta = rest_byte f 1 (omega (arith, l)) in
    let letter = rest_byte f 2 (omega (arith, l)) in
    (search rules, header_stands f _ l (search rules) (search rules) (search rules) (search rules) (search rules) processors delta letter, search rules)
