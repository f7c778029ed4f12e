-- `roles::role_of` meets its contract: what each role tells of its value is computed, and a role of 0 tells nothing.
use Rattle.resource.specs.Values.{carried, pieces, fields_of, smaller_at}
use Rattle.kinds.specs.Kinds.{kinds, kind_at, family, span, mask, takes, takes_block, blank_at}
use Rattle.kinds.specs.Fields.{gives, share}
use Rattle.segments.specs.Engine.{fitting}
use Rattle.roles.specs.Engine.{place_of}
use Rattle.roles.proofs.Table.{role_test, tested}
use Rattle.roles.proofs.role_of.Goals as goal

pub returns-in-0 : goal.returns-in-0
unfolding role_test fitting place_of share gives takes takes_block blank_at family span mask kind_at kinds smaller_at fields_of pieces carried
returns-in-0 c = rw c.in-0.is (tested _ _ _ tt)

pub returns-in-1 : goal.returns-in-1
unfolding role_test fitting place_of share gives takes takes_block blank_at family span mask kind_at kinds smaller_at fields_of pieces carried
returns-in-1 c = rw c.in-1.is (tested _ _ _ tt)

pub returns-in-2 : goal.returns-in-2
unfolding role_test fitting place_of share gives takes takes_block blank_at family span mask kind_at kinds smaller_at fields_of pieces carried
returns-in-2 c = rw c.in-2.is (tested _ _ _ tt)

pub returns-in-3 : goal.returns-in-3
unfolding role_test fitting place_of share gives takes takes_block blank_at family span mask kind_at kinds smaller_at fields_of pieces carried
returns-in-3 c = rw c.in-3.is (tested _ _ _ tt)

pub returns-in-4 : goal.returns-in-4
unfolding role_test fitting place_of share gives takes takes_block blank_at family span mask kind_at kinds smaller_at fields_of pieces carried
returns-in-4 c = rw c.in-4.is (tested _ _ _ tt)

pub returns-in-5 : goal.returns-in-5
unfolding role_test fitting place_of share gives takes takes_block blank_at family span mask kind_at kinds smaller_at fields_of pieces carried
returns-in-5 c = rw c.in-5.is (tested _ _ _ tt)

pub returns-in-6 : goal.returns-in-6
unfolding role_test fitting place_of share gives takes takes_block blank_at family span mask kind_at kinds smaller_at fields_of pieces carried
returns-in-6 c = rw c.in-6.is (tested _ _ _ tt)

pub returns-in-7 : goal.returns-in-7
unfolding role_test fitting place_of share gives takes takes_block blank_at family span mask kind_at kinds smaller_at fields_of pieces carried
returns-in-7 c = rw c.in-7.is (tested _ _ _ tt)

pub returns-in-8 : goal.returns-in-8
unfolding role_test fitting place_of share gives takes takes_block blank_at family span mask kind_at kinds smaller_at fields_of pieces carried
returns-in-8 c = rw c.in-8.is (tested _ _ _ tt)

pub returns-in-9 : goal.returns-in-9
unfolding role_test fitting place_of share gives takes takes_block blank_at family span mask kind_at kinds smaller_at fields_of pieces carried
returns-in-9 c = rw c.in-9.is (tested _ _ _ tt)

pub returns-in-10 : goal.returns-in-10
unfolding role_test fitting place_of share gives takes takes_block blank_at family span mask kind_at kinds smaller_at fields_of pieces carried
returns-in-10 c = rw c.in-10.is (tested _ _ _ tt)

pub returns-in-11 : goal.returns-in-11
unfolding role_test fitting place_of share gives takes takes_block blank_at family span mask kind_at kinds smaller_at fields_of pieces carried
returns-in-11 c = rw c.in-11.is (tested _ _ _ tt)

pub returns-in-12 : goal.returns-in-12
unfolding role_test fitting place_of share gives takes takes_block blank_at family span mask kind_at kinds smaller_at fields_of pieces carried
returns-in-12 c = rw c.in-12.is (tested _ _ _ tt)

pub returns-in-13 : goal.returns-in-13
unfolding role_test fitting place_of share gives takes takes_block blank_at family span mask kind_at kinds smaller_at fields_of pieces carried
returns-in-13 c = rw c.in-13.is (tested _ _ _ tt)

pub returns-in-14 : goal.returns-in-14
unfolding role_test fitting place_of share gives takes takes_block blank_at family span mask kind_at kinds smaller_at fields_of pieces carried
returns-in-14 c = rw c.in-14.is (tested _ _ _ tt)

pub returns-in-15 : goal.returns-in-15
unfolding role_test fitting place_of share gives takes takes_block blank_at family span mask kind_at kinds smaller_at fields_of pieces carried
returns-in-15 c = rw c.in-15.is (tested _ _ _ tt)

pub returns-in-16 : goal.returns-in-16
unfolding role_test fitting place_of share gives takes takes_block blank_at family span mask kind_at kinds smaller_at fields_of pieces carried
returns-in-16 c = rw c.in-16.is (tested _ _ _ tt)

pub returns-in-17 : goal.returns-in-17
unfolding role_test fitting place_of share gives takes takes_block blank_at family span mask kind_at kinds smaller_at fields_of pieces carried
returns-in-17 c = rw c.in-17.is (tested _ _ _ tt)

pub returns-in-18 : goal.returns-in-18
unfolding role_test fitting place_of share gives takes takes_block blank_at family span mask kind_at kinds smaller_at fields_of pieces carried
returns-in-18 c = rw c.in-18.is (tested _ _ _ tt)

pub returns-in-19 : goal.returns-in-19
unfolding role_test fitting place_of share gives takes takes_block blank_at family span mask kind_at kinds smaller_at fields_of pieces carried
returns-in-19 c = rw c.in-19.is (tested _ _ _ tt)

pub returns-in-20 : goal.returns-in-20
unfolding role_test fitting place_of share gives takes takes_block blank_at family span mask kind_at kinds smaller_at fields_of pieces carried
returns-in-20 c = rw c.in-20.is (tested _ _ _ tt)

pub returns-in-21 : goal.returns-in-21
unfolding role_test fitting place_of share gives takes takes_block blank_at family span mask kind_at kinds smaller_at fields_of pieces carried
returns-in-21 c = rw c.in-21.is (tested _ _ _ tt)

pub returns-in-22 : goal.returns-in-22
unfolding role_test fitting place_of share gives takes takes_block blank_at family span mask kind_at kinds smaller_at fields_of pieces carried
returns-in-22 c = rw c.in-22.is (tested _ _ _ tt)

pub returns-in-23 : goal.returns-in-23
unfolding role_test fitting place_of share gives takes takes_block blank_at family span mask kind_at kinds smaller_at fields_of pieces carried
returns-in-23 c = rw c.in-23.is (tested _ _ _ tt)

pub returns-in-24 : goal.returns-in-24
unfolding role_test fitting place_of share gives takes takes_block blank_at family span mask kind_at kinds smaller_at fields_of pieces carried
returns-in-24 c = rw c.in-24.is (tested _ _ _ tt)

pub returns-in-25 : goal.returns-in-25
unfolding role_test fitting place_of share gives takes takes_block blank_at family span mask kind_at kinds smaller_at fields_of pieces carried
returns-in-25 c = rw c.in-25.is (tested _ _ _ tt)

pub returns-in-26 : goal.returns-in-26
unfolding role_test fitting place_of share gives takes takes_block blank_at family span mask kind_at kinds smaller_at fields_of pieces carried
returns-in-26 c = rw c.in-26.is (tested _ _ _ tt)

pub returns-in-27 : goal.returns-in-27
unfolding role_test fitting place_of share gives takes takes_block blank_at family span mask kind_at kinds smaller_at fields_of pieces carried
returns-in-27 c = rw c.in-27.is (tested _ _ _ tt)

pub returns-in-28 : goal.returns-in-28
unfolding role_test fitting place_of share gives takes takes_block blank_at family span mask kind_at kinds smaller_at fields_of pieces carried
returns-in-28 c = rw c.in-28.is (tested _ _ _ tt)

pub returns-in-29 : goal.returns-in-29
unfolding role_test fitting place_of share gives takes takes_block blank_at family span mask kind_at kinds smaller_at fields_of pieces carried
returns-in-29 c = rw c.in-29.is (tested _ _ _ tt)

pub returns-in-30 : goal.returns-in-30
unfolding role_test fitting place_of share gives takes takes_block blank_at family span mask kind_at kinds smaller_at fields_of pieces carried
returns-in-30 c = rw c.in-30.is (tested _ _ _ tt)

pub returns-in-48 : goal.returns-in-48
unfolding role_test fitting place_of share gives takes takes_block blank_at family span mask kind_at kinds smaller_at fields_of pieces carried
returns-in-48 c = rw c.in-48.is (tested _ _ _ tt)

pub returns-in-50 : goal.returns-in-50
unfolding role_test fitting place_of share gives takes takes_block blank_at family span mask kind_at kinds smaller_at fields_of pieces carried
returns-in-50 c = rw c.in-50.is (tested _ _ _ tt)

pub returns-in-64 : goal.returns-in-64
unfolding role_test fitting place_of share gives takes takes_block blank_at family span mask kind_at kinds smaller_at fields_of pieces carried
returns-in-64 c = rw c.in-64.is (tested _ _ _ tt)

pub returns-in-65 : goal.returns-in-65
unfolding role_test fitting place_of share gives takes takes_block blank_at family span mask kind_at kinds smaller_at fields_of pieces carried
returns-in-65 c = rw c.in-65.is (tested _ _ _ tt)

pub returns-in-66 : goal.returns-in-66
unfolding role_test fitting place_of share gives takes takes_block blank_at family span mask kind_at kinds smaller_at fields_of pieces carried
returns-in-66 c = rw c.in-66.is (tested _ _ _ tt)

pub returns-in-67 : goal.returns-in-67
unfolding role_test fitting place_of share gives takes takes_block blank_at family span mask kind_at kinds smaller_at fields_of pieces carried
returns-in-67 c = rw c.in-67.is (tested _ _ _ tt)

pub returns-in-68 : goal.returns-in-68
unfolding role_test fitting place_of share gives takes takes_block blank_at family span mask kind_at kinds smaller_at fields_of pieces carried
returns-in-68 c = rw c.in-68.is (tested _ _ _ tt)

pub returns-in-69 : goal.returns-in-69
unfolding role_test fitting place_of share gives takes takes_block blank_at family span mask kind_at kinds smaller_at fields_of pieces carried
returns-in-69 c = rw c.in-69.is (tested _ _ _ tt)

pub returns-in-70 : goal.returns-in-70
unfolding role_test fitting place_of share gives takes takes_block blank_at family span mask kind_at kinds smaller_at fields_of pieces carried
returns-in-70 c = rw c.in-70.is (tested _ _ _ tt)

pub returns-in-71 : goal.returns-in-71
unfolding role_test fitting place_of share gives takes takes_block blank_at family span mask kind_at kinds smaller_at fields_of pieces carried
returns-in-71 c = rw c.in-71.is (tested _ _ _ tt)

pub returns-in-72 : goal.returns-in-72
unfolding role_test fitting place_of share gives takes takes_block blank_at family span mask kind_at kinds smaller_at fields_of pieces carried
returns-in-72 c = rw c.in-72.is (tested _ _ _ tt)

pub returns-in-73 : goal.returns-in-73
unfolding role_test fitting place_of share gives takes takes_block blank_at family span mask kind_at kinds smaller_at fields_of pieces carried
returns-in-73 c = rw c.in-73.is (tested _ _ _ tt)

pub returns-in-74 : goal.returns-in-74
unfolding role_test fitting place_of share gives takes takes_block blank_at family span mask kind_at kinds smaller_at fields_of pieces carried
returns-in-74 c = rw c.in-74.is (tested _ _ _ tt)

pub returns-in-75 : goal.returns-in-75
unfolding role_test fitting place_of share gives takes takes_block blank_at family span mask kind_at kinds smaller_at fields_of pieces carried
returns-in-75 c = rw c.in-75.is (tested _ _ _ tt)

pub returns-in-76 : goal.returns-in-76
unfolding role_test fitting place_of share gives takes takes_block blank_at family span mask kind_at kinds smaller_at fields_of pieces carried
returns-in-76 c = rw c.in-76.is (tested _ _ _ tt)

pub returns-in-77 : goal.returns-in-77
unfolding role_test fitting place_of share gives takes takes_block blank_at family span mask kind_at kinds smaller_at fields_of pieces carried
returns-in-77 c = rw c.in-77.is (tested _ _ _ tt)

pub returns-in-78 : goal.returns-in-78
unfolding role_test fitting place_of share gives takes takes_block blank_at family span mask kind_at kinds smaller_at fields_of pieces carried
returns-in-78 c = rw c.in-78.is (tested _ _ _ tt)

pub returns-in-79 : goal.returns-in-79
unfolding role_test fitting place_of share gives takes takes_block blank_at family span mask kind_at kinds smaller_at fields_of pieces carried
returns-in-79 c = rw c.in-79.is (tested _ _ _ tt)

pub returns-in-80 : goal.returns-in-80
unfolding role_test fitting place_of share gives takes takes_block blank_at family span mask kind_at kinds smaller_at fields_of pieces carried
returns-in-80 c = rw c.in-80.is (tested _ _ _ tt)

pub returns-in-81 : goal.returns-in-81
unfolding role_test fitting place_of share gives takes takes_block blank_at family span mask kind_at kinds smaller_at fields_of pieces carried
returns-in-81 c = rw c.in-81.is (tested _ _ _ tt)

pub returns-in-82 : goal.returns-in-82
unfolding role_test fitting place_of share gives takes takes_block blank_at family span mask kind_at kinds smaller_at fields_of pieces carried
returns-in-82 c = rw c.in-82.is (tested _ _ _ tt)

pub returns-in-83 : goal.returns-in-83
unfolding role_test fitting place_of share gives takes takes_block blank_at family span mask kind_at kinds smaller_at fields_of pieces carried
returns-in-83 c = rw c.in-83.is (tested _ _ _ tt)

pub returns-in-84 : goal.returns-in-84
unfolding role_test fitting place_of share gives takes takes_block blank_at family span mask kind_at kinds smaller_at fields_of pieces carried
returns-in-84 c = rw c.in-84.is (tested _ _ _ tt)

pub returns-in-85 : goal.returns-in-85
unfolding role_test fitting place_of share gives takes takes_block blank_at family span mask kind_at kinds smaller_at fields_of pieces carried
returns-in-85 c = rw c.in-85.is (tested _ _ _ tt)

pub returns-in-86 : goal.returns-in-86
unfolding role_test fitting place_of share gives takes takes_block blank_at family span mask kind_at kinds smaller_at fields_of pieces carried
returns-in-86 c = rw c.in-86.is (tested _ _ _ tt)

pub returns-in-87 : goal.returns-in-87
unfolding role_test fitting place_of share gives takes takes_block blank_at family span mask kind_at kinds smaller_at fields_of pieces carried
returns-in-87 c = rw c.in-87.is (tested _ _ _ tt)

pub returns-in-96 : goal.returns-in-96
unfolding role_test fitting place_of share gives takes takes_block blank_at family span mask kind_at kinds smaller_at fields_of pieces carried
returns-in-96 c = rw c.in-96.is (tested _ _ _ tt)

pub returns-in-97 : goal.returns-in-97
unfolding role_test fitting place_of share gives takes takes_block blank_at family span mask kind_at kinds smaller_at fields_of pieces carried
returns-in-97 c = rw c.in-97.is (tested _ _ _ tt)

pub returns-in-98 : goal.returns-in-98
unfolding role_test fitting place_of share gives takes takes_block blank_at family span mask kind_at kinds smaller_at fields_of pieces carried
returns-in-98 c = rw c.in-98.is (tested _ _ _ tt)

pub returns-in-99 : goal.returns-in-99
unfolding role_test fitting place_of share gives takes takes_block blank_at family span mask kind_at kinds smaller_at fields_of pieces carried
returns-in-99 c = rw c.in-99.is (tested _ _ _ tt)

pub returns-in-100 : goal.returns-in-100
unfolding role_test fitting place_of share gives takes takes_block blank_at family span mask kind_at kinds smaller_at fields_of pieces carried
returns-in-100 c = rw c.in-100.is (tested _ _ _ tt)

pub returns-in-101 : goal.returns-in-101
unfolding role_test fitting place_of share gives takes takes_block blank_at family span mask kind_at kinds smaller_at fields_of pieces carried
returns-in-101 c = rw c.in-101.is (tested _ _ _ tt)

pub returns-in-102 : goal.returns-in-102
unfolding role_test fitting place_of share gives takes takes_block blank_at family span mask kind_at kinds smaller_at fields_of pieces carried
returns-in-102 c = rw c.in-102.is (tested _ _ _ tt)

pub returns-in-103 : goal.returns-in-103
unfolding role_test fitting place_of share gives takes takes_block blank_at family span mask kind_at kinds smaller_at fields_of pieces carried
returns-in-103 c = rw c.in-103.is (tested _ _ _ tt)

pub returns-in-104 : goal.returns-in-104
unfolding role_test fitting place_of share gives takes takes_block blank_at family span mask kind_at kinds smaller_at fields_of pieces carried
returns-in-104 c = rw c.in-104.is (tested _ _ _ tt)

pub returns-in-105 : goal.returns-in-105
unfolding role_test fitting place_of share gives takes takes_block blank_at family span mask kind_at kinds smaller_at fields_of pieces carried
returns-in-105 c = rw c.in-105.is (tested _ _ _ tt)

pub returns-in-106 : goal.returns-in-106
unfolding role_test fitting place_of share gives takes takes_block blank_at family span mask kind_at kinds smaller_at fields_of pieces carried
returns-in-106 c = rw c.in-106.is (tested _ _ _ tt)

pub returns-in-107 : goal.returns-in-107
unfolding role_test fitting place_of share gives takes takes_block blank_at family span mask kind_at kinds smaller_at fields_of pieces carried
returns-in-107 c = rw c.in-107.is (tested _ _ _ tt)

pub returns-in-108 : goal.returns-in-108
unfolding role_test fitting place_of share gives takes takes_block blank_at family span mask kind_at kinds smaller_at fields_of pieces carried
returns-in-108 c = rw c.in-108.is (tested _ _ _ tt)

pub returns-in-109 : goal.returns-in-109
unfolding role_test fitting place_of share gives takes takes_block blank_at family span mask kind_at kinds smaller_at fields_of pieces carried
returns-in-109 c = rw c.in-109.is (tested _ _ _ tt)

pub returns-in-110 : goal.returns-in-110
unfolding role_test fitting place_of share gives takes takes_block blank_at family span mask kind_at kinds smaller_at fields_of pieces carried
returns-in-110 c = rw c.in-110.is (tested _ _ _ tt)

pub returns-in-111 : goal.returns-in-111
unfolding role_test fitting place_of share gives takes takes_block blank_at family span mask kind_at kinds smaller_at fields_of pieces carried
returns-in-111 c = rw c.in-111.is (tested _ _ _ tt)

pub returns-in-112 : goal.returns-in-112
unfolding role_test fitting place_of share gives takes takes_block blank_at family span mask kind_at kinds smaller_at fields_of pieces carried
returns-in-112 c = rw c.in-112.is (tested _ _ _ tt)

pub returns-in-113 : goal.returns-in-113
unfolding role_test fitting place_of share gives takes takes_block blank_at family span mask kind_at kinds smaller_at fields_of pieces carried
returns-in-113 c = rw c.in-113.is (tested _ _ _ tt)

pub returns-in-114 : goal.returns-in-114
unfolding role_test fitting place_of share gives takes takes_block blank_at family span mask kind_at kinds smaller_at fields_of pieces carried
returns-in-114 c = rw c.in-114.is (tested _ _ _ tt)

pub returns-in-115 : goal.returns-in-115
unfolding role_test fitting place_of share gives takes takes_block blank_at family span mask kind_at kinds smaller_at fields_of pieces carried
returns-in-115 c = rw c.in-115.is (tested _ _ _ tt)

pub returns-in-116 : goal.returns-in-116
unfolding role_test fitting place_of share gives takes takes_block blank_at family span mask kind_at kinds smaller_at fields_of pieces carried
returns-in-116 c = rw c.in-116.is (tested _ _ _ tt)

pub returns-in-117 : goal.returns-in-117
unfolding role_test fitting place_of share gives takes takes_block blank_at family span mask kind_at kinds smaller_at fields_of pieces carried
returns-in-117 c = rw c.in-117.is (tested _ _ _ tt)

pub returns-in-118 : goal.returns-in-118
unfolding role_test fitting place_of share gives takes takes_block blank_at family span mask kind_at kinds smaller_at fields_of pieces carried
returns-in-118 c = rw c.in-118.is (tested _ _ _ tt)

pub returns-in-119 : goal.returns-in-119
unfolding role_test fitting place_of share gives takes takes_block blank_at family span mask kind_at kinds smaller_at fields_of pieces carried
returns-in-119 c = rw c.in-119.is (tested _ _ _ tt)

pub returns-in-120 : goal.returns-in-120
unfolding role_test fitting place_of share gives takes takes_block blank_at family span mask kind_at kinds smaller_at fields_of pieces carried
returns-in-120 c = rw c.in-120.is (tested _ _ _ tt)

pub returns-in-121 : goal.returns-in-121
unfolding role_test fitting place_of share gives takes takes_block blank_at family span mask kind_at kinds smaller_at fields_of pieces carried
returns-in-121 c = rw c.in-121.is (tested _ _ _ tt)

pub returns-in-122 : goal.returns-in-122
unfolding role_test fitting place_of share gives takes takes_block blank_at family span mask kind_at kinds smaller_at fields_of pieces carried
returns-in-122 c = rw c.in-122.is (tested _ _ _ tt)

pub returns-in-123 : goal.returns-in-123
unfolding role_test fitting place_of share gives takes takes_block blank_at family span mask kind_at kinds smaller_at fields_of pieces carried
returns-in-123 c = rw c.in-123.is (tested _ _ _ tt)

pub returns-in-124 : goal.returns-in-124
unfolding role_test fitting place_of share gives takes takes_block blank_at family span mask kind_at kinds smaller_at fields_of pieces carried
returns-in-124 c = rw c.in-124.is (tested _ _ _ tt)

pub returns-in-125 : goal.returns-in-125
unfolding role_test fitting place_of share gives takes takes_block blank_at family span mask kind_at kinds smaller_at fields_of pieces carried
returns-in-125 c = rw c.in-125.is (tested _ _ _ tt)

pub returns-in-126 : goal.returns-in-126
unfolding role_test fitting place_of share gives takes takes_block blank_at family span mask kind_at kinds smaller_at fields_of pieces carried
returns-in-126 c = rw c.in-126.is (tested _ _ _ tt)

pub returns-in-127 : goal.returns-in-127
unfolding role_test fitting place_of share gives takes takes_block blank_at family span mask kind_at kinds smaller_at fields_of pieces carried
returns-in-127 c = rw c.in-127.is (tested _ _ _ tt)
