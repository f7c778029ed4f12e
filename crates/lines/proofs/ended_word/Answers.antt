-- `lines::ended_word` meets its contract: each entry is computed.
use Rattle.text.specs.Text.{dec}
use Rattle.lines.proofs.Ended.{ended}
use Rattle.lines.proofs.ended_word.Goals as goal

pub returns-in-0 : goal.returns-in-0
unfolding dec
returns-in-0 c = rw c.in-0.is (ended _ _ tt)

pub returns-in-1 : goal.returns-in-1
unfolding dec
returns-in-1 c = rw c.in-1.is (ended _ _ tt)

pub returns-in-2 : goal.returns-in-2
unfolding dec
returns-in-2 c = rw c.in-2.is (ended _ _ tt)

pub returns-in-3 : goal.returns-in-3
unfolding dec
returns-in-3 c = rw c.in-3.is (ended _ _ tt)

pub returns-in-4 : goal.returns-in-4
unfolding dec
returns-in-4 c = rw c.in-4.is (ended _ _ tt)

pub returns-in-5 : goal.returns-in-5
unfolding dec
returns-in-5 c = rw c.in-5.is (ended _ _ tt)

pub returns-in-6 : goal.returns-in-6
unfolding dec
returns-in-6 c = rw c.in-6.is (ended _ _ tt)

pub returns-in-7 : goal.returns-in-7
unfolding dec
returns-in-7 c = rw c.in-7.is (ended _ _ tt)

pub returns-in-8 : goal.returns-in-8
unfolding dec
returns-in-8 c = rw c.in-8.is (ended _ _ tt)

pub returns-in-9 : goal.returns-in-9
unfolding dec
returns-in-9 c = rw c.in-9.is (ended _ _ tt)

pub returns-in-10 : goal.returns-in-10
unfolding dec
returns-in-10 c = rw c.in-10.is (ended _ _ tt)

pub returns-in-11 : goal.returns-in-11
unfolding dec
returns-in-11 c = rw c.in-11.is (ended _ _ tt)

pub returns-in-12 : goal.returns-in-12
unfolding dec
returns-in-12 c = rw c.in-12.is (ended _ _ tt)

pub returns-in-13 : goal.returns-in-13
unfolding dec
returns-in-13 c = rw c.in-13.is (ended _ _ tt)

pub returns-in-14 : goal.returns-in-14
unfolding dec
returns-in-14 c = rw c.in-14.is (ended _ _ tt)

pub returns-in-15 : goal.returns-in-15
unfolding dec
returns-in-15 c = rw c.in-15.is (ended _ _ tt)

pub returns-in-16 : goal.returns-in-16
unfolding dec
returns-in-16 c = rw c.in-16.is (ended _ _ tt)

pub returns-in-17 : goal.returns-in-17
unfolding dec
returns-in-17 c = rw c.in-17.is (ended _ _ tt)

pub returns-in-18 : goal.returns-in-18
unfolding dec
returns-in-18 c = rw c.in-18.is (ended _ _ tt)

pub returns-in-19 : goal.returns-in-19
unfolding dec
returns-in-19 c = rw c.in-19.is (ended _ _ tt)

pub returns-in-20 : goal.returns-in-20
unfolding dec
returns-in-20 c = rw c.in-20.is (ended _ _ tt)

pub returns-in-21 : goal.returns-in-21
unfolding dec
returns-in-21 c = rw c.in-21.is (ended _ _ tt)

pub returns-in-22 : goal.returns-in-22
unfolding dec
returns-in-22 c = rw c.in-22.is (ended _ _ tt)

pub returns-in-23 : goal.returns-in-23
unfolding dec
returns-in-23 c = rw c.in-23.is (ended _ _ tt)

pub returns-in-24 : goal.returns-in-24
unfolding dec
returns-in-24 c = rw c.in-24.is (ended _ _ tt)

pub returns-in-25 : goal.returns-in-25
unfolding dec
returns-in-25 c = rw c.in-25.is (ended _ _ tt)

pub returns-in-26 : goal.returns-in-26
unfolding dec
returns-in-26 c = rw c.in-26.is (ended _ _ tt)

pub returns-in-27 : goal.returns-in-27
unfolding dec
returns-in-27 c = rw c.in-27.is (ended _ _ tt)

pub returns-in-28 : goal.returns-in-28
unfolding dec
returns-in-28 c = rw c.in-28.is (ended _ _ tt)

pub returns-in-29 : goal.returns-in-29
unfolding dec
returns-in-29 c = rw c.in-29.is (ended _ _ tt)

pub returns-in-30 : goal.returns-in-30
unfolding dec
returns-in-30 c = rw c.in-30.is (ended _ _ tt)

pub returns-in-31 : goal.returns-in-31
unfolding dec
returns-in-31 c = rw c.in-31.is (ended _ _ tt)

pub returns-in-32 : goal.returns-in-32
unfolding dec
returns-in-32 c = rw c.in-32.is (ended _ _ tt)

pub returns-in-33 : goal.returns-in-33
unfolding dec
returns-in-33 c = rw c.in-33.is (ended _ _ tt)

pub returns-in-34 : goal.returns-in-34
unfolding dec
returns-in-34 c = rw c.in-34.is (ended _ _ tt)

pub returns-in-35 : goal.returns-in-35
unfolding dec
returns-in-35 c = rw c.in-35.is (ended _ _ tt)

pub returns-in-36 : goal.returns-in-36
unfolding dec
returns-in-36 c = rw c.in-36.is (ended _ _ tt)

pub returns-in-37 : goal.returns-in-37
unfolding dec
returns-in-37 c = rw c.in-37.is (ended _ _ tt)

pub returns-in-38 : goal.returns-in-38
unfolding dec
returns-in-38 c = rw c.in-38.is (ended _ _ tt)

pub returns-in-39 : goal.returns-in-39
unfolding dec
returns-in-39 c = rw c.in-39.is (ended _ _ tt)

pub returns-in-40 : goal.returns-in-40
unfolding dec
returns-in-40 c = rw c.in-40.is (ended _ _ tt)

pub returns-in-41 : goal.returns-in-41
unfolding dec
returns-in-41 c = rw c.in-41.is (ended _ _ tt)

pub returns-in-42 : goal.returns-in-42
unfolding dec
returns-in-42 c = rw c.in-42.is (ended _ _ tt)

pub returns-in-43 : goal.returns-in-43
unfolding dec
returns-in-43 c = rw c.in-43.is (ended _ _ tt)

pub returns-in-44 : goal.returns-in-44
unfolding dec
returns-in-44 c = rw c.in-44.is (ended _ _ tt)

pub returns-in-45 : goal.returns-in-45
unfolding dec
returns-in-45 c = rw c.in-45.is (ended _ _ tt)

pub returns-in-46 : goal.returns-in-46
unfolding dec
returns-in-46 c = rw c.in-46.is (ended _ _ tt)

pub returns-in-47 : goal.returns-in-47
unfolding dec
returns-in-47 c = rw c.in-47.is (ended _ _ tt)

pub returns-in-48 : goal.returns-in-48
unfolding dec
returns-in-48 c = rw c.in-48.is (ended _ _ tt)

pub returns-in-49 : goal.returns-in-49
unfolding dec
returns-in-49 c = rw c.in-49.is (ended _ _ tt)

pub returns-in-50 : goal.returns-in-50
unfolding dec
returns-in-50 c = rw c.in-50.is (ended _ _ tt)

pub returns-in-51 : goal.returns-in-51
unfolding dec
returns-in-51 c = rw c.in-51.is (ended _ _ tt)

pub returns-in-52 : goal.returns-in-52
unfolding dec
returns-in-52 c = rw c.in-52.is (ended _ _ tt)

pub returns-in-53 : goal.returns-in-53
unfolding dec
returns-in-53 c = rw c.in-53.is (ended _ _ tt)

pub returns-in-54 : goal.returns-in-54
unfolding dec
returns-in-54 c = rw c.in-54.is (ended _ _ tt)

pub returns-in-55 : goal.returns-in-55
unfolding dec
returns-in-55 c = rw c.in-55.is (ended _ _ tt)

pub returns-in-56 : goal.returns-in-56
unfolding dec
returns-in-56 c = rw c.in-56.is (ended _ _ tt)

pub returns-in-57 : goal.returns-in-57
unfolding dec
returns-in-57 c = rw c.in-57.is (ended _ _ tt)

pub returns-in-58 : goal.returns-in-58
unfolding dec
returns-in-58 c = rw c.in-58.is (ended _ _ tt)

pub returns-in-59 : goal.returns-in-59
unfolding dec
returns-in-59 c = rw c.in-59.is (ended _ _ tt)

pub returns-in-60 : goal.returns-in-60
unfolding dec
returns-in-60 c = rw c.in-60.is (ended _ _ tt)

pub returns-in-61 : goal.returns-in-61
unfolding dec
returns-in-61 c = rw c.in-61.is (ended _ _ tt)

pub returns-in-62 : goal.returns-in-62
unfolding dec
returns-in-62 c = rw c.in-62.is (ended _ _ tt)

pub returns-in-63 : goal.returns-in-63
unfolding dec
returns-in-63 c = rw c.in-63.is (ended _ _ tt)

pub returns-in-64 : goal.returns-in-64
unfolding dec
returns-in-64 c = rw c.in-64.is (ended _ _ tt)

pub returns-in-65 : goal.returns-in-65
unfolding dec
returns-in-65 c = rw c.in-65.is (ended _ _ tt)

pub returns-in-66 : goal.returns-in-66
unfolding dec
returns-in-66 c = rw c.in-66.is (ended _ _ tt)

pub returns-in-67 : goal.returns-in-67
unfolding dec
returns-in-67 c = rw c.in-67.is (ended _ _ tt)

pub returns-in-68 : goal.returns-in-68
unfolding dec
returns-in-68 c = rw c.in-68.is (ended _ _ tt)

pub returns-in-69 : goal.returns-in-69
unfolding dec
returns-in-69 c = rw c.in-69.is (ended _ _ tt)

pub returns-in-70 : goal.returns-in-70
unfolding dec
returns-in-70 c = rw c.in-70.is (ended _ _ tt)

pub returns-in-71 : goal.returns-in-71
unfolding dec
returns-in-71 c = rw c.in-71.is (ended _ _ tt)

pub returns-in-72 : goal.returns-in-72
unfolding dec
returns-in-72 c = rw c.in-72.is (ended _ _ tt)

pub returns-in-73 : goal.returns-in-73
unfolding dec
returns-in-73 c = rw c.in-73.is (ended _ _ tt)

pub returns-in-74 : goal.returns-in-74
unfolding dec
returns-in-74 c = rw c.in-74.is (ended _ _ tt)

pub returns-in-75 : goal.returns-in-75
unfolding dec
returns-in-75 c = rw c.in-75.is (ended _ _ tt)

pub returns-in-76 : goal.returns-in-76
unfolding dec
returns-in-76 c = rw c.in-76.is (ended _ _ tt)

pub returns-in-77 : goal.returns-in-77
unfolding dec
returns-in-77 c = rw c.in-77.is (ended _ _ tt)

pub returns-in-78 : goal.returns-in-78
unfolding dec
returns-in-78 c = rw c.in-78.is (ended _ _ tt)

pub returns-in-79 : goal.returns-in-79
unfolding dec
returns-in-79 c = rw c.in-79.is (ended _ _ tt)

pub returns-in-80 : goal.returns-in-80
unfolding dec
returns-in-80 c = rw c.in-80.is (ended _ _ tt)

pub returns-in-81 : goal.returns-in-81
unfolding dec
returns-in-81 c = rw c.in-81.is (ended _ _ tt)

pub returns-in-82 : goal.returns-in-82
unfolding dec
returns-in-82 c = rw c.in-82.is (ended _ _ tt)

pub returns-in-83 : goal.returns-in-83
unfolding dec
returns-in-83 c = rw c.in-83.is (ended _ _ tt)

pub returns-in-84 : goal.returns-in-84
unfolding dec
returns-in-84 c = rw c.in-84.is (ended _ _ tt)

pub returns-in-85 : goal.returns-in-85
unfolding dec
returns-in-85 c = rw c.in-85.is (ended _ _ tt)

pub returns-in-86 : goal.returns-in-86
unfolding dec
returns-in-86 c = rw c.in-86.is (ended _ _ tt)

pub returns-in-87 : goal.returns-in-87
unfolding dec
returns-in-87 c = rw c.in-87.is (ended _ _ tt)

pub returns-in-88 : goal.returns-in-88
unfolding dec
returns-in-88 c = rw c.in-88.is (ended _ _ tt)

pub returns-in-89 : goal.returns-in-89
unfolding dec
returns-in-89 c = rw c.in-89.is (ended _ _ tt)

pub returns-in-90 : goal.returns-in-90
unfolding dec
returns-in-90 c = rw c.in-90.is (ended _ _ tt)

pub returns-in-91 : goal.returns-in-91
unfolding dec
returns-in-91 c = rw c.in-91.is (ended _ _ tt)

pub returns-in-92 : goal.returns-in-92
unfolding dec
returns-in-92 c = rw c.in-92.is (ended _ _ tt)

pub returns-in-93 : goal.returns-in-93
unfolding dec
returns-in-93 c = rw c.in-93.is (ended _ _ tt)

pub returns-in-94 : goal.returns-in-94
unfolding dec
returns-in-94 c = rw c.in-94.is (ended _ _ tt)

pub returns-in-95 : goal.returns-in-95
unfolding dec
returns-in-95 c = rw c.in-95.is (ended _ _ tt)

pub returns-in-96 : goal.returns-in-96
unfolding dec
returns-in-96 c = rw c.in-96.is (ended _ _ tt)

pub returns-in-97 : goal.returns-in-97
unfolding dec
returns-in-97 c = rw c.in-97.is (ended _ _ tt)

pub returns-in-98 : goal.returns-in-98
unfolding dec
returns-in-98 c = rw c.in-98.is (ended _ _ tt)

pub returns-in-99 : goal.returns-in-99
unfolding dec
returns-in-99 c = rw c.in-99.is (ended _ _ tt)

pub returns-in-100 : goal.returns-in-100
unfolding dec
returns-in-100 c = rw c.in-100.is (ended _ _ tt)

pub returns-in-101 : goal.returns-in-101
unfolding dec
returns-in-101 c = rw c.in-101.is (ended _ _ tt)

pub returns-in-102 : goal.returns-in-102
unfolding dec
returns-in-102 c = rw c.in-102.is (ended _ _ tt)

pub returns-in-103 : goal.returns-in-103
unfolding dec
returns-in-103 c = rw c.in-103.is (ended _ _ tt)

pub returns-in-104 : goal.returns-in-104
unfolding dec
returns-in-104 c = rw c.in-104.is (ended _ _ tt)

pub returns-in-105 : goal.returns-in-105
unfolding dec
returns-in-105 c = rw c.in-105.is (ended _ _ tt)

pub returns-in-106 : goal.returns-in-106
unfolding dec
returns-in-106 c = rw c.in-106.is (ended _ _ tt)

pub returns-in-107 : goal.returns-in-107
unfolding dec
returns-in-107 c = rw c.in-107.is (ended _ _ tt)

pub returns-in-108 : goal.returns-in-108
unfolding dec
returns-in-108 c = rw c.in-108.is (ended _ _ tt)

pub returns-in-109 : goal.returns-in-109
unfolding dec
returns-in-109 c = rw c.in-109.is (ended _ _ tt)

pub returns-in-110 : goal.returns-in-110
unfolding dec
returns-in-110 c = rw c.in-110.is (ended _ _ tt)

pub returns-in-111 : goal.returns-in-111
unfolding dec
returns-in-111 c = rw c.in-111.is (ended _ _ tt)

pub returns-in-112 : goal.returns-in-112
unfolding dec
returns-in-112 c = rw c.in-112.is (ended _ _ tt)

pub returns-in-113 : goal.returns-in-113
unfolding dec
returns-in-113 c = rw c.in-113.is (ended _ _ tt)

pub returns-in-114 : goal.returns-in-114
unfolding dec
returns-in-114 c = rw c.in-114.is (ended _ _ tt)

pub returns-in-115 : goal.returns-in-115
unfolding dec
returns-in-115 c = rw c.in-115.is (ended _ _ tt)

pub returns-in-116 : goal.returns-in-116
unfolding dec
returns-in-116 c = rw c.in-116.is (ended _ _ tt)

pub returns-in-117 : goal.returns-in-117
unfolding dec
returns-in-117 c = rw c.in-117.is (ended _ _ tt)

pub returns-in-118 : goal.returns-in-118
unfolding dec
returns-in-118 c = rw c.in-118.is (ended _ _ tt)

pub returns-in-119 : goal.returns-in-119
unfolding dec
returns-in-119 c = rw c.in-119.is (ended _ _ tt)

pub returns-in-120 : goal.returns-in-120
unfolding dec
returns-in-120 c = rw c.in-120.is (ended _ _ tt)

pub returns-in-121 : goal.returns-in-121
unfolding dec
returns-in-121 c = rw c.in-121.is (ended _ _ tt)

pub returns-in-122 : goal.returns-in-122
unfolding dec
returns-in-122 c = rw c.in-122.is (ended _ _ tt)

pub returns-in-123 : goal.returns-in-123
unfolding dec
returns-in-123 c = rw c.in-123.is (ended _ _ tt)

pub returns-in-124 : goal.returns-in-124
unfolding dec
returns-in-124 c = rw c.in-124.is (ended _ _ tt)

pub returns-in-125 : goal.returns-in-125
unfolding dec
returns-in-125 c = rw c.in-125.is (ended _ _ tt)

pub returns-in-126 : goal.returns-in-126
unfolding dec
returns-in-126 c = rw c.in-126.is (ended _ _ tt)

pub returns-in-127 : goal.returns-in-127
unfolding dec
returns-in-127 c = rw c.in-127.is (ended _ _ tt)

pub returns-in-128 : goal.returns-in-128
unfolding dec
returns-in-128 c = rw c.in-128.is (ended _ _ tt)

pub returns-in-129 : goal.returns-in-129
unfolding dec
returns-in-129 c = rw c.in-129.is (ended _ _ tt)

pub returns-in-130 : goal.returns-in-130
unfolding dec
returns-in-130 c = rw c.in-130.is (ended _ _ tt)

pub returns-in-131 : goal.returns-in-131
unfolding dec
returns-in-131 c = rw c.in-131.is (ended _ _ tt)

pub returns-in-132 : goal.returns-in-132
unfolding dec
returns-in-132 c = rw c.in-132.is (ended _ _ tt)

pub returns-in-133 : goal.returns-in-133
unfolding dec
returns-in-133 c = rw c.in-133.is (ended _ _ tt)

pub returns-in-134 : goal.returns-in-134
unfolding dec
returns-in-134 c = rw c.in-134.is (ended _ _ tt)

pub returns-in-135 : goal.returns-in-135
unfolding dec
returns-in-135 c = rw c.in-135.is (ended _ _ tt)

pub returns-in-136 : goal.returns-in-136
unfolding dec
returns-in-136 c = rw c.in-136.is (ended _ _ tt)

pub returns-in-137 : goal.returns-in-137
unfolding dec
returns-in-137 c = rw c.in-137.is (ended _ _ tt)

pub returns-in-138 : goal.returns-in-138
unfolding dec
returns-in-138 c = rw c.in-138.is (ended _ _ tt)

pub returns-in-139 : goal.returns-in-139
unfolding dec
returns-in-139 c = rw c.in-139.is (ended _ _ tt)

pub returns-in-140 : goal.returns-in-140
unfolding dec
returns-in-140 c = rw c.in-140.is (ended _ _ tt)

pub returns-in-141 : goal.returns-in-141
unfolding dec
returns-in-141 c = rw c.in-141.is (ended _ _ tt)

pub returns-in-142 : goal.returns-in-142
unfolding dec
returns-in-142 c = rw c.in-142.is (ended _ _ tt)

pub returns-in-143 : goal.returns-in-143
unfolding dec
returns-in-143 c = rw c.in-143.is (ended _ _ tt)

pub returns-in-144 : goal.returns-in-144
unfolding dec
returns-in-144 c = rw c.in-144.is (ended _ _ tt)
