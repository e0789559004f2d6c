-- The numbers and the names of the fault kinds, as reports print them. Both are this project's own.
use Rattle.std.specs.Prelude.{ℕ, List, codes}
use Rattle.py_base.specs.declared.kind.Kind.{Kind}
use Rattle.py_base.specs.declared.kind.Kind.TheVariants as kinds

-- the kinds are numbered from 1 in the order in which they are declared
abbrev pub number_of : Kind → ℕ
number_of kinds.ReadPermission = 1
number_of kinds.WritePermission = 2
number_of kinds.NoneReceiver = 3
number_of kinds.ZeroDivisor = 4
number_of kinds.Assert = 5
number_of kinds.NoneValue = 6
number_of kinds.PreValue = 7
number_of kinds.PreUnits = 8
number_of kinds.Instance = 9
number_of kinds.PostValue = 10
number_of kinds.PostUnits = 11
number_of kinds.LoopValue = 12
number_of kinds.LoopUnits = 13
number_of kinds.LockInvariant = 14
number_of kinds.Undeclared = 15
number_of kinds.Exceptional = 16
number_of kinds.NotHeld = 17
number_of kinds.Measure = 18
number_of kinds.NoMeasure = 19
number_of kinds.WaitLevel = 20
number_of kinds.Leak = 21
number_of kinds.NotStartable = 22
number_of kinds.NotJoinable = 23
number_of kinds.Override = 24
number_of kinds.Undefined = 25

-- the name of a kind is the name of its variant
abbrev pub name_of : Kind → List ℕ
name_of kinds.ReadPermission = codes "ReadPermission"
name_of kinds.WritePermission = codes "WritePermission"
name_of kinds.NoneReceiver = codes "NoneReceiver"
name_of kinds.ZeroDivisor = codes "ZeroDivisor"
name_of kinds.Assert = codes "Assert"
name_of kinds.NoneValue = codes "NoneValue"
name_of kinds.PreValue = codes "PreValue"
name_of kinds.PreUnits = codes "PreUnits"
name_of kinds.Instance = codes "Instance"
name_of kinds.PostValue = codes "PostValue"
name_of kinds.PostUnits = codes "PostUnits"
name_of kinds.LoopValue = codes "LoopValue"
name_of kinds.LoopUnits = codes "LoopUnits"
name_of kinds.LockInvariant = codes "LockInvariant"
name_of kinds.Undeclared = codes "Undeclared"
name_of kinds.Exceptional = codes "Exceptional"
name_of kinds.NotHeld = codes "NotHeld"
name_of kinds.Measure = codes "Measure"
name_of kinds.NoMeasure = codes "NoMeasure"
name_of kinds.WaitLevel = codes "WaitLevel"
name_of kinds.Leak = codes "Leak"
name_of kinds.NotStartable = codes "NotStartable"
name_of kinds.NotJoinable = codes "NotJoinable"
name_of kinds.Override = codes "Override"
name_of kinds.Undefined = codes "Undefined"
